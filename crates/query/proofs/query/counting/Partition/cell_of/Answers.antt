use Rattle.std.proofs.Common.{rules, leb}
use Rattle.std.proofs.lemmas.List.Sorted.{IsPartitionPoint-from_clause}
use Rattle.query.proofs.Cells.{parted, cell_from_point}
use Rattle.query.proofs.query.counting.Partition.cell_of.Goals as goal

pub returns : goal.returns
returns c =
    let cuts = c.args.self.now.cuts.now in
    let point = IsPartitionPoint-from_clause (λ k. leb k c.args.value) cuts _ c.partition_point.ensures.partitioned (parted cuts c.args.value c.args.self.now.rising) (λ a r q k. search rules) in
    (c.partition_point.ensures.bound, cell_from_point cuts c.args.value _ c.partition_point.ensures.bound point)
