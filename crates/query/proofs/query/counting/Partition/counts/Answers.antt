use Rattle.std.proofs.Common.{length, sym, refl, ap, ◌∙◌, arith, length-set}
use Rattle.roll.specs.Stored.{predicate_of}
use Rattle.query.proofs.Cells.{start, few_so_far, turn_miss, turn_hit}
use Rattle.query.proofs.query.counting.Partition.counts.Goals as goal
use Rattle.query.proofs.query.counting.Partition.counts.Goals.{in-Some, in_default}

pub loop-row-init : goal.loop-row-init
loop-row-init c =
    let self = c.args.self.now in
    (refl, sym (start (predicate_of self.predicate.now) self.field.number self.cuts.now self.few c.args.rows.now))

pub overflow_add-numbers : goal.overflow_add-numbers
overflow_add-numbers c =
    let self = c.args.self.now in
    let few = few_so_far (predicate_of self.predicate.now) self.field.number self.cuts.now self.few c.args.rows.now c.loop-row.numbers c.loop-row.row-index c.in-Some.cell c.in-Some.ensures.1 c.loop-row.invariant.1 (omega arith) in
    omega arith

pub loop-row-preserved : goal.loop-row-preserved
loop-row-preserved c =
    let self = c.args.self.now in
    elim c.match-counting_cell.branch [
      | in-Some w ↦ (ap length w.numbers-is ∙ length-set c.loop-row.numbers _ _ ∙ c.loop-row.invariant.0, w.numbers-is ∙ turn_hit (predicate_of self.predicate.now) self.field.number self.cuts.now self.few c.args.rows.now c.loop-row.numbers c.loop-row.row-index w.in-Some.cell c.loop-row-test.true c.loop-row.invariant.1 w.in-Some.ensures.0 w.in-Some.ensures.1 w.in-Some.ensures.2)
      | in_default w ↦ (ap length w.numbers-is ∙ c.loop-row.invariant.0, w.numbers-is ∙ turn_miss (predicate_of self.predicate.now) self.field.number self.cuts.now self.few c.args.rows.now c.loop-row.numbers c.loop-row.row-index c.loop-row-test.true c.loop-row.invariant.1 w.in_default.ensures)
    ]
