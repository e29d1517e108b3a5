use Rattle.weights.proofs.Steps.{walked_all}
use Rattle.weights.proofs.walk.Goals as goal

pub loop-j-init : goal.loop-j-init
loop-j-init c = walked_all _ _
