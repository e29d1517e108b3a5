use Rattle.curator.proofs.Machine.{composition, composition_of_sets}
use Rattle.curator.proofs.laws.composition_stands.Goals as goal

pub returns : goal.returns
returns c = record { single = composition _ _ _; sets = composition_of_sets _ _ _ }
