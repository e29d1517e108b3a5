use Rattle.std.proofs.Common.{sym, refl, ◌∙◌}
use Rattle.std.proofs.lemmas.Bool.{ltb-true, ltb-false}
use Rattle.roll.proofs.Edits.{no_place, no_status, taken, rows_after}
use Rattle.roll.proofs.rows.Roll.edit.Goals as goal

pub returns-in_default : goal.returns-in_default
returns-in_default c = record { verdict = sym (no_place _ _ c.args.row.now c.in_default.ensures); after = refl }

pub returns-then-is_misfit-clause-verdict : goal.returns-then-is_misfit-clause-verdict
returns-then-is_misfit-clause-verdict c =
    sym (no_status _ _ c.args.row.now c.in-Some.ensures.0 (ltb-true 1 _ (sym c.is_misfit.ensures ∙ c.if-is_misfit.true)))

pub returns : goal.returns
returns c =
    let bytes = c.args.self.now.bytes.now in
    let row = c.args.row.now in
    let found = c.in-Some.ensures in
    record {
      verdict = sym (taken bytes c.args.place row found.0 (ltb-false 1 _ (sym c.is_misfit.ensures ∙ c.if-is_misfit.false)));
      after = rows_after bytes c.args.place row c.told-row found.0 _ _ found.1 c.put.ensures;
    }
