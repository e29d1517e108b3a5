use Rattle.std.proofs.Common.{refl, ◌∙◌}
use Rattle.query.specs.Query.{cells, cut}
use Rattle.query.proofs.query.Query.true_counts.Goals as goal

-- a count is a table with no cuts
pub returns-in-Count : goal.returns-in-Count
unfolding cut cells
returns-in-Count c = c.counts.ensures ∙ rw c.in-Count.is refl

pub returns-in-Table : goal.returns-in-Table
unfolding cells
returns-in-Table c = c.counts-in-Table.ensures ∙ rw (c.in-Table.is, c.as_slice.ensures) refl
