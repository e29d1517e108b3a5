use Rattle.bulletin.proofs.Moves.{tails}
use Rattle.bulletin.proofs.tail.tails.Goals as goal

pub returns-clause-counted : goal.returns-clause-counted
returns-clause-counted c = tails
