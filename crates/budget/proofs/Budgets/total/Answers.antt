use Rattle.std.proofs.Common.{◌≡◌, ◌+◌, ap, arith}
use Rattle.std.proofs.lemmas.Iterator.{YieldsList-from_slice}
use Rattle.std.proofs.lemmas.Iterator.Consumers.{sum_from_yields_List}
use Rattle.roll.specs.Numbers.{total}
use Rattle.budget.specs.Budget.{budgets_of}
use Rattle.budget.proofs.Totals.{fold_total}
use Rattle.budget.proofs.Budgets.total.Goals as goal

pub sum-requires-clause-fits : goal.sum-requires-clause-fits
sum-requires-clause-fits c p t e =
    let b = c.args.self.now in
    let same : p.from.rest.now ≡ budgets_of b = cc in
    let most = (c.iter.ensures.runs p t).7 (λ a x. a + x) 0 (λ a y. omega arith) in
    omega (arith, fold_total p.from.rest.now 0, ap total same, b.bounded)

pub returns : goal.returns
returns c =
    let budgets = budgets_of c.args.self.now in
    omega (arith, sum_from_yields_List _ _ c.sum.ensures.ran (YieldsList-from_slice budgets cc), fold_total budgets 0)
