use Rattle.curator.proofs.Ours.{private}
use Rattle.curator.proofs.Private.{private_by}
use Rattle.curator.proofs.laws.private_stands.Goals as goal

pub returns : goal.returns
returns c = record { good = private_by; ours = private }
