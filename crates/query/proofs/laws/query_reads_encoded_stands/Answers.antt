use Rattle.query.proofs.Encoding.{query_reads_encoded}
use Rattle.query.proofs.laws.query_reads_encoded_stands.Goals as goal

pub returns : goal.returns
returns c = query_reads_encoded
