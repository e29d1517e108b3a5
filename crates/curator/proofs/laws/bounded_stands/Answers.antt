use Rattle.curator.proofs.Budgets.{bounded}
use Rattle.curator.proofs.laws.bounded_stands.Goals as goal

pub returns : goal.returns
returns c = bounded
