use Rattle.query.proofs.cuts.reading.+scan.Given as goal

abbrev pub decreases-scan : goal.decreases-scan
decreases-scan l = l.n
