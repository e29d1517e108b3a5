-- The bytes of the line of accounts.
use Rattle.std.specs.Prelude.{ℕ, List, [], ◌∷◌, ◌++◌, codes, decimal}

-- what each analyst holds, in the order of their numbers, each after a space
abbrev pub left_text : List ℕ → List ℕ
left_text [] = []
left_text (b ∷ bs) = codes " " ++ (decimal b ++ left_text bs)

-- the units spent, of those that all held at the opening, and what each analyst holds
abbrev pub accounts_text : ℕ → ℕ → List ℕ → List ℕ
accounts_text spent held budgets =
    codes "accounts: spent " ++ (decimal spent ++ (codes " of " ++ (decimal held ++ (codes ", left" ++ left_text budgets))))
