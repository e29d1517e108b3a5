-- What is paid leaves the budgets, and what each analyst then holds.
use Rattle.std.proofs.Common.{◌≡◌, ℕ, zero, suc, ◌-◌, ◌<◌, List, [], ◌∷◌, length, get_or, set, Some, ap, ◌∙◌, arith}
use Rattle.std.proofs.lemmas.Bool.Decides.{nat_tests}
use Rattle.roll.specs.Numbers.{total}
use Rattle.budget.specs.Budget.{held, pay}
use Rattle.budget.specs.Statements.{Pays}

-- by the analyst's place in the list
pub pays : Pays
unfolding total pay
pays [] analyst cost h = omega arith
pays (b ∷ budgets) zero cost h = omega arith
pays (b ∷ budgets) (suc analyst) cost h = omega (arith, pays budgets analyst cost h)

module _ (budgets : List ℕ) (analyst v : ℕ) where
  -- an analyst who holds something is one of them
  pub held_some : Some v ≡ held budgets analyst → (analyst < length budgets) × (v ≡ get_or budgets analyst 0)
  held_some e = grind (arith, nat_tests)

  -- what is left of it is what the analyst holds after paying
  pub lowered : (cost rest : ℕ) → Some v ≡ held budgets analyst → rest ≡ v - cost → set budgets analyst rest ≡ pay budgets analyst cost
  unfolding pay
  lowered cost rest e is = ap (set budgets analyst) (is ∙ ap (λ x. x - cost) (held_some e).1)

pub ruleset paying = (pays, held_some, lowered)
