-- What is spent leaves the budgets, and never passes what they held.
use Rattle.std.proofs.Common.{◌≡◌, ℕ, ◌+◌, ◌-◌, ◌/◌, ◌≤◌, Bool, true, false, cond, ltb, List, [], ◌∷◌, ◌++◌, length, get_or, Some, None, refl, zero-le, le_trans, le_refl, add-zero, arith, ltb-false}
use Rattle.roll.specs.Numbers.{total}
use Rattle.query.specs.Query.{Query, cost}
use Rattle.noise.specs.Dial.{Dial, our_dial}
use Rattle.budget.proofs.Payments.{pays}
use Rattle.curator.specs.Lines.{Command, edit, ask, reject}
use Rattle.curator.specs.Curator.{Outcome, answered, edited, refused, page, verdict, by_verdict, charge, price, paid, taken, Commands, commands, spent, spent_of}
use Rattle.curator.specs.Statements.{Bounded}

-- no outcome costs more than the query's cost
charge_le : (q : Query) (o : Outcome) → charge q o ≤ cost q
unfolding charge
charge_le q (answered a xs u) = le_refl (cost q)
charge_le q edited = zero-le
charge_le q (refused n k) = zero-le

module _ (d : Dial) where
  -- a query that is None costs no more than its analyst's budget holds
  price_le : (left : ℕ) (budgets : List ℕ) (analyst : ℕ) (q : Query) (o : Outcome) → price d left budgets (ask analyst q) o ≤ get_or budgets analyst 0
  unfolding price verdict by_verdict
  price_le left budgets analyst q o = go (ltb left (page d)) (ltb analyst (length budgets)) (ltb (get_or budgets analyst 0) (cost q)) refl
    where
      -- by the three tests of the verdict
      go : (x y z : Bool) → ltb (get_or budgets analyst 0) (cost q) ≡ z →
          by_verdict (cond x (Some (20, 0)) (cond y (cond z (Some (19, 1)) None) (Some (18, 1)))) (charge q o) (λ n k. 0) ≤ get_or budgets analyst 0
      go true y z e = zero-le
      go false false z e = zero-le
      go false true true e = zero-le
      go false true false e = le_trans (charge_le q o) (ltb-false (get_or budgets analyst 0) (cost q) e)

  -- what a line takes from the budgets is its price
  pub paid_price : (left : ℕ) (budgets : List ℕ) (c : Command) (o : Outcome) → total (paid d left budgets c o) + price d left budgets c o ≡ total budgets
  unfolding paid price
  paid_price left budgets (edit i r) o = add-zero (total budgets)
  paid_price left budgets (reject n k) o = add-zero (total budgets)
  paid_price left budgets (ask analyst q) o = pays budgets analyst (price d left budgets (ask analyst q) o) (price_le left budgets analyst q o)

  -- for any commands
  pub spent_le : (next : Commands) (left : ℕ) (budgets : List ℕ) (sofar t : List Outcome) → spent d next left budgets sofar t ≤ total budgets
  unfolding spent
  spent_le next left budgets sofar [] = zero-le
  spent_le next left budgets sofar (o ∷ t) =
      omega (
        arith,
        paid_price left budgets (next sofar) o,
        spent_le next (left - taken d left (next sofar)) (paid d left budgets (next sofar) o) (sofar ++ (o ∷ [])) t,
      )

-- and so for the commands of any lines
pub bounded : Bounded
unfolding spent_of
bounded write places size budgets t = spent_le our_dial (commands places write) (size / 8) budgets [] t
