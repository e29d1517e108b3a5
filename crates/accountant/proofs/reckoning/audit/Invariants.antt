use Rattle.std.proofs.Common.{◌≡◌, map, drop}
use Rattle.curator.specs.Scripts.{lines_in}
use Rattle.curator.specs.Served.{outcome_of}
use Rattle.accountant.specs.Accountant.{audited_from}
use Rattle.accountant.specs.Reckoned.{standing_of}
use Rattle.accountant.proofs.reckoning.audit.Given as goal

-- the lines and outcomes that are left give the answer
abbrev pub invariant-loop-at : goal.invariant-loop-at
invariant-loop-at l =
    audited_from l.at-counter (standing_of l.account) (lines_in l.left) (map outcome_of (drop l.at-counter l.outcomes))
    ≡ audited_from 0 (standing_of l.initial.account) (lines_in l.lines) (map outcome_of l.outcomes)
