-- Budgets: the units that each analyst may still spend, how they are opened and what is paid from them.
use Rattle.std.specs.Prelude.{ℕ, ◌+◌, ◌-◌, cond, ◌||◌, List, [], ◌∷◌, length, Some, None, Option, nat_lt, slice_index, slice_set}
use Rattle.roll.specs.Lists.{listed}
use Rattle.budget.specs.declared.Budgets.{Budgets}

-- what each analyst holds, in the order of their numbers
abbrev pub budgets_of : Budgets → List ℕ
budgets_of b = listed b.units

-- what one analyst holds, if there is such an analyst
abbrev pub held : List ℕ → ℕ → Option ℕ
held budgets analyst = cond (nat_lt analyst (length budgets)) (Some (slice_index budgets analyst)) None

-- the first budget, counted from analyst i, that with the units before it holds above 20: 4 at that analyst
unfoldable pub overfull : ℕ → ℕ → List ℕ → Option (ℕ × ℕ)
overfull i before [] = None
overfull i before (b ∷ bs) = cond (nat_lt 20 (before + b)) (Some (4, i)) (overfull (i + 1) (before + b) bs)

-- the number and the place of the refusal of an opening with these budgets, if it is refused
abbrev pub opening_refusal : List ℕ → Option (ℕ × ℕ)
opening_refusal budgets = cond (nat_lt (length budgets) 1 || nat_lt 32 (length budgets)) (Some (3, 0)) (overfull 0 0 budgets)

-- the number and the place of the refusal of a payment, if it is refused: there is no such analyst, or the budget is below the cost
abbrev pub payment_refusal : List ℕ → ℕ → ℕ → Option (ℕ × ℕ)
payment_refusal budgets analyst cost =
    cond (nat_lt analyst (length budgets)) (cond (nat_lt (slice_index budgets analyst) cost) (Some (19, 1)) None) (Some (18, 1))

-- the budgets after an analyst has paid a cost
unfoldable pub pay : List ℕ → ℕ → ℕ → List ℕ
pay budgets analyst cost = slice_set budgets analyst (slice_index budgets analyst - cost)
