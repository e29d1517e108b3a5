use Rattle.bulletin.proofs.Moves.{honest_error}
use Rattle.bulletin.proofs.honest_error_stands.Goals as goal

pub returns : goal.returns
returns c = honest_error
