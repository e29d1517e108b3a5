-- A sum that is added up from the front is the total.
use Rattle.std.proofs.Common.{◌≡◌, ℕ, ◌+◌, List, [], ◌∷◌, arith}
use Rattle.std.specs.List.{fold}
use Rattle.roll.specs.Numbers.{total}

-- from any number on
pub fold_total : (xs : List ℕ) (n : ℕ) → fold (λ a x. a + x) n xs ≡ n + total xs
unfolding total
fold_total [] n = omega arith
fold_total (x ∷ xs) n = omega (arith, fold_total xs (n + x))
