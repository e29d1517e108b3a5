use Rattle.std.proofs.Common.{◌≡◌, ◌≤◌, take, drop}
use Rattle.roll.specs.Numbers.{total}
use Rattle.budget.specs.Budget.{overfull, opening_refusal}
use Rattle.budget.proofs.Budgets.open.Given as goal

-- the budgets so far hold `sum` together, and those that are left decide
abbrev pub invariant-loop-analyst : goal.invariant-loop-analyst
invariant-loop-analyst l =
    (l.sum ≡ total (take l.analyst l.bytes)) × (l.sum ≤ 20) × (overfull l.analyst l.sum (drop l.analyst l.bytes) ≡ opening_refusal l.bytes)
