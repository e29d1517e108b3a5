use Rattle.std.proofs.Common.{◌≡◌, drop}
use Rattle.weights.specs.Ring.{walked}
use Rattle.weights.proofs.Steps.{walked_from}
use Rattle.weights.proofs.walk.Given as goal

-- what is left to walk gives the answer
abbrev pub invariant-loop-j : goal.invariant-loop-j
invariant-loop-j l = walked_from l.j (drop l.j l.weights) l.left ≡ walked l.weights l.u
