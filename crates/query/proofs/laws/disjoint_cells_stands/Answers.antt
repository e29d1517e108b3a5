use Rattle.query.proofs.Rows.{disjoint_cells, single_cell}
use Rattle.query.proofs.laws.disjoint_cells_stands.Goals as goal

pub returns : goal.returns
returns c = record { disjoint = disjoint_cells; single = single_cell }
