-- The search for the first budget that is too much, an analyst at a time.
use Rattle.std.proofs.Common.{◌≡◌, ℕ, ◌+◌, ◌<◌, ◌≤◌, List, length, get_or, drop, Some, None, ◌∙◌, arith}
use Rattle.std.proofs.lemmas.List.{at_drop_more, at_drop_all}
use Rattle.std.proofs.lemmas.Bool.{cond-true, cond-false, lt-ltb, le-ltb}
use Rattle.std.proofs.lemmas.Bool.Decides.{nat_tests}
use Rattle.roll.proofs.Totals.{total_more}
use Rattle.budget.specs.Budget.{overfull, opening_refusal}

module _ (bytes : List ℕ) (i before : ℕ) where
  -- it stops at a budget that with those before it is too much
  pub stops_here : i < length bytes → 20 < before + get_or bytes i 0 → overfull i before (drop i bytes) ≡ Some (4, i)
  unfolding overfull
  stops_here h over = at_drop_more (overfull i before) bytes i 0 h ∙ cond-true _ _ _ (lt-ltb _ _ over)

  -- it goes on past any other
  pub goes_on : i < length bytes → before + get_or bytes i 0 ≤ 20 → overfull i before (drop i bytes) ≡ overfull (i + 1) (before + get_or bytes i 0) (drop (i + 1) bytes)
  unfolding overfull
  goes_on h fits = at_drop_more (overfull i before) bytes i 0 h ∙ cond-false _ _ _ (le-ltb _ _ fits)

  -- it finds none past the last
  pub finds_none : length bytes ≤ i → overfull i before (drop i bytes) ≡ None
  unfolding overfull
  finds_none h = at_drop_all (overfull i before) bytes i h

-- with 1 to 32 analysts the budgets decide
pub by_budgets : (bytes : List ℕ) → 1 ≤ length bytes → length bytes ≤ 32 → opening_refusal bytes ≡ overfull 0 0 bytes
by_budgets bytes some few = grind (arith, nat_tests)

pub ruleset opening = (stops_here, goes_on, finds_none, total_more)
