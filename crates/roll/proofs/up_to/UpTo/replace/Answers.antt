use Rattle.std.proofs.Common.{arith}
use Rattle.std.proofs.Math.Seq.{take-set-lt}
use Rattle.roll.proofs.up_to.UpTo.replace.Goals as goal

pub returns-clause-after : goal.returns-clause-after
returns-clause-after g c = take-set-lt _ _ _ _ (omega (arith, c.if-at-self.false))
