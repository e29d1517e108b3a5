use Rattle.curator.proofs.Ours.{judged}
use Rattle.curator.proofs.Private.{judged_by}
use Rattle.curator.proofs.laws.judged_stands.Goals as goal

pub returns : goal.returns
returns c = record { good = judged_by; ours = judged }
