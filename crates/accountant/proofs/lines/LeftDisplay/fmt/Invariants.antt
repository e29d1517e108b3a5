use Rattle.std.proofs.Common.{take}
use Rattle.std.specs.Fmt.{IsPlainFormatter, HasWritten}
use Rattle.budget.specs.Budget.{budgets_of}
use Rattle.accountant.specs.Lines.{left_text}
use Rattle.accountant.proofs.lines.LeftDisplay.fmt.Given as goal

-- what the analysts so far hold is written
abbrev pub invariant-loop-units : goal.invariant-loop-units
invariant-loop-units g l = IsPlainFormatter l.initial.f → HasWritten g.W.Write.write_str_gives l.initial.f (left_text (take l.units-index (budgets_of l.self.0))) l.f
