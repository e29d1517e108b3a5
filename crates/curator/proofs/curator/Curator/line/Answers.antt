use Rattle.std.proofs.Common.{length, refl, ap, ◌∙◌}
use Rattle.roll.specs.Rows.{rows_of}
use Rattle.curator.specs.Served.{command_at}
use Rattle.curator.proofs.Replies.{rejected_line, edited_turn, by_command}
use Rattle.curator.proofs.curator.Curator.line.Goals as goal

pub returns-in-Err-clause-outcome : goal.returns-in-Err-clause-outcome
returns-in-Err-clause-outcome c = (by_command (c.in-Err.ensures (length (rows_of c.args.roll.now))) (rejected_line refl)).outcome_is

pub returns-in-Err-clause-after : goal.returns-in-Err-clause-after
returns-in-Err-clause-after c = (by_command (c.in-Err.ensures (length (rows_of c.args.roll.now))) (rejected_line refl)).state_is

pub returns-in-Edit-clause-outcome : goal.returns-in-Edit-clause-outcome
returns-in-Edit-clause-outcome c =
    let places = length (rows_of c.args.roll.now) in
    (edited_turn _ _ _ (c.in-Ok.ensures places ∙ ap (command_at places) c.in-Edit.is) c.edit.ensures.outcome c.edit.ensures.after refl refl).outcome_is

pub returns-in-Edit-clause-after : goal.returns-in-Edit-clause-after
returns-in-Edit-clause-after c =
    let places = length (rows_of c.args.roll.now) in
    (edited_turn _ _ _ (c.in-Ok.ensures places ∙ ap (command_at places) c.in-Edit.is) c.edit.ensures.outcome c.edit.ensures.after refl refl).state_is
