use Rattle.std.proofs.Common.{◌≡◌, ◌-◌, ◌++◌, length, take, replicate}
use Rattle.roll.specs.Stored.{predicate_of}
use Rattle.query.specs.Query.{cut, counts}
use Rattle.query.proofs.query.counting.Partition.counts.Given as goal

abbrev pub invariant-loop-row : goal.invariant-loop-row
invariant-loop-row l =
    (length l.numbers ≡ 64)
    × (l.numbers ≡ counts (cut (predicate_of l.self.predicate.now) l.self.field.number l.self.cuts.now) (take l.row-index l.rows) ++ replicate (63 - length l.self.cuts.now) 0)
