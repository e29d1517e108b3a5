use Rattle.roll.proofs.Laws.{reads_encoded}
use Rattle.roll.proofs.predicate.laws.reads_encoded_stands.Goals as goal

pub returns : goal.returns
returns c = reads_encoded
