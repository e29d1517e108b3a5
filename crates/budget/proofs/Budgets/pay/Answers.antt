use Rattle.std.proofs.Common.{◌≡◌, sym, ap, subst, arith}
use Rattle.std.specs.List.{All}
use Rattle.roll.specs.Numbers.{total}
use Rattle.roll.specs.Lists.{listed}
use Rattle.budget.specs.Budget.{budgets_of, pay}
use Rattle.budget.proofs.Payments.{paying}
use Rattle.budget.proofs.Budgets.pay.Goals as goal

pub invariant_of-self-clause-bounded : goal.invariant_of-self-clause-bounded
invariant_of-self-clause-bounded c =
    let after : listed c.replace.new.self ≡ pay (budgets_of c.args.self) c.args.analyst c.args.cost = grind (arith, paying) in
    grind (arith, paying, ap total after)

pub invariant_of-self-clause-empty : goal.invariant_of-self-clause-empty
invariant_of-self-clause-empty c = subst (All (λ u. u ≡ 0)) (sym c.replace.ensures.spare) c.args.self.empty
