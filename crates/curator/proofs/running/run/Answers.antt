use Rattle.curator.specs.Curator.{transcript_of, state_of}
use Rattle.curator.proofs.Budgets.{bounded}
use Rattle.curator.proofs.Following.{followed_none, followed_more, followed_all, state_all}
use Rattle.curator.proofs.Ours.{private}
use Rattle.curator.proofs.running.run.Goals as goal

pub loop-line-init : goal.loop-line-init
loop-line-init g c = rw c.into_iter-line-iterator.ensures.into_iter_gives (followed_none g.J.Journal.notes _ _ _)

pub loop-line-preserved : goal.loop-line-preserved
loop-line-preserved g c =
    let done = c.line.ensures in
    followed_more g.J.Journal.notes _ _ _ _ _ _ c.loop-line.invariant _ _ c.in-Some.ensures.steps _ c.line.result _ c.note.ensures done.outcome done.after

pub returns : goal.returns
unfolding transcript_of state_of
returns g c =
    let opened = c.open-curator.ensures in
    let none = c.in-None.ensures.steps.0 in
    record {
      told = rw (← opened.budgets, ← opened.tape) (followed_all g.J.Journal.notes _ _ _ _ _ _ c.loop-line.invariant none);
      after = rw (← opened.budgets, ← opened.tape) (state_all g.J.Journal.notes _ _ _ _ _ _ c.loop-line.invariant none);
      private = private;
      bounded = bounded;
    }
