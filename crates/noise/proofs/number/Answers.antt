use Rattle.std.proofs.Common.{arith}
use Rattle.noise.proofs.Turns.{has_offset, numbered, unnumbered}
use Rattle.noise.proofs.number.Goals as goal

pub returns-in_err-u : goal.returns-in_err-u
returns-in_err-u c = rw c.from_residual.ensures (unnumbered _ _ c.in_err-u.ensures)

pub returns-in_err-moved : goal.returns-in_err-moved
returns-in_err-moved c = absurd (has_offset c.args.count _ _ c.in_ok-u.ensures c.in_err-moved.ensures)

pub returns : goal.returns
returns c = numbered _ _ _ c.in_ok-u.ensures _ _ c.in_ok-moved.ensures (omega arith)
