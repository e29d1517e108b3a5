use Rattle.roll.specs.Rows.{rows_of}
use Rattle.curator.specs.Scripts.{lines_in}
use Rattle.curator.specs.Served.{state_by}
use Rattle.curator.proofs.Following.{Followed}
use Rattle.curator.proofs.running.run.Given as goal

-- the lines so far are followed
abbrev pub invariant-loop-line : goal.invariant-loop-line
invariant-loop-line g l =
    Followed g.J.Journal.notes l.initial.journal (state_by l.initial.curator (rows_of l.initial.roll)) (lines_in l.lines) l.journal
    (state_by l.curator (rows_of l.roll)) (lines_in l.line-iterator.0.now)
