use Rattle.std.proofs.Common.{◌≡◌, ◌≤◌, length, sym, refl, ap, arith, length-take, rules}
use Rattle.roll.specs.Numbers.{total}
use Rattle.roll.specs.Lists.{listed}
use Rattle.budget.proofs.Openings.{by_budgets}
use Rattle.budget.proofs.Budgets.open.Goals as goal

pub loop-analyst-init : goal.loop-analyst-init
unfolding total
loop-analyst-init c =
    let bytes = c.args.bytes.now in
    let units = c.in_ok-units.units in
    let same : listed units ≡ bytes = search rules in
    let some : 1 ≤ length bytes = search rules in
    (refl, omega arith, sym (by_budgets bytes some (omega (arith, ap length same, length-take units.len units.items, units.few))))
