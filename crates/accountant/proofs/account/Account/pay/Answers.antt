use Rattle.std.proofs.Common.{◌≡◌, ◌+◌, ◌≤◌, None, ap, arith, rules}
use Rattle.roll.specs.Numbers.{total}
use Rattle.budget.specs.Budget.{budgets_of, payment_refusal, pay}
use Rattle.accountant.specs.Reckoned.{standing_of}
use Rattle.accountant.proofs.Entries.{charged_balance}
use Rattle.accountant.proofs.account.Account.pay.Goals as goal

-- what is left after the charge, and what is then spent, stay within the bound
bounded : (c : goal.In_ok-self) → total (budgets_of c.in_ok-self.field-0) + (c.args.self.spent + c.args.cost) ≤ 20
bounded c =
    let s = standing_of c.args.self in
    let paid : None ≡ payment_refusal s.budgets c.args.analyst c.args.cost = search rules in
    let after : budgets_of c.in_ok-self.field-0 ≡ pay s.budgets c.args.analyst c.args.cost = search rules in
    omega (arith, ap total after, charged_balance s c.args.analyst c.args.cost paid, c.args.self.bounded)

pub overflow_add-self : goal.overflow_add-self
overflow_add-self c = let few = bounded c in search rules

pub invariant_of-self : goal.invariant_of-self
invariant_of-self c = record { bounded = bounded c }
