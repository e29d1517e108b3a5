use Rattle.roll.proofs.Laws.{encodes_read}
use Rattle.roll.proofs.predicate.laws.encodes_read_stands.Goals as goal

pub returns : goal.returns
returns c = encodes_read
