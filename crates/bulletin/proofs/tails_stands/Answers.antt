use Rattle.bulletin.proofs.Moves.{tails}
use Rattle.bulletin.proofs.tails_stands.Goals as goal

pub returns : goal.returns
returns c = tails
