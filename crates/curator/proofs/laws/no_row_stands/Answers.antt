use Rattle.curator.proofs.Refusals.{no_row}
use Rattle.curator.proofs.laws.no_row_stands.Goals as goal

pub returns : goal.returns
returns c = no_row
