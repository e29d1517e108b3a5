use Rattle.std.proofs.Common.{ap, ◌∙◌}
use Rattle.roll.specs.Rows.{rows_of}
use Rattle.curator.specs.Lines.{edit_unless}
use Rattle.curator.specs.Curator.{edited_roll}
use Rattle.curator.proofs.curator.lines.edit.Goals as goal

pub returns-in-Ok-clause-after : goal.returns-in-Ok-clause-after
unfolding edited_roll
returns-in-Ok-clause-after c =
    c.in-Ok.ensures.after ∙ ap (λ e. edited_roll (rows_of c.args.roll.now) (edit_unless e c.args.place c.args.row.now)) c.in-Ok.ensures.verdict

pub returns-in-Err-clause-after : goal.returns-in-Err-clause-after
unfolding edited_roll
returns-in-Err-clause-after c =
    c.in-Err.ensures.after ∙ ap (λ e. edited_roll (rows_of c.args.roll.now) (edit_unless e c.args.place c.args.row.now)) c.in-Err.ensures.verdict
