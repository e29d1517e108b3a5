use Rattle.query.proofs.Rows.{cells_disjoint}
use Rattle.query.proofs.laws.cells_disjoint_stands.Goals as goal

pub returns : goal.returns
returns c = cells_disjoint
