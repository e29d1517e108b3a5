use Rattle.std.proofs.Common.{length}
use Rattle.roll.proofs.predicate.evaluating.+evaluate.Given as goal

abbrev pub decreases-evaluate : goal.decreases-evaluate
decreases-evaluate l = length l.tokens.now
