use Rattle.roll.proofs.predicate.reading.+scan.Given as goal

abbrev pub decreases-scan : goal.decreases-scan
decreases-scan l = l.left
