use Rattle.query.proofs.Rows.{one_row}
use Rattle.query.proofs.laws.one_row_stands.Goals as goal

pub returns : goal.returns
returns c = one_row
