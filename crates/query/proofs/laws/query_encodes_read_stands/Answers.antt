use Rattle.query.proofs.Encoding.{query_encodes_read}
use Rattle.query.proofs.laws.query_encodes_read_stands.Goals as goal

pub returns : goal.returns
returns c = query_encodes_read
