use Rattle.std.proofs.Common.{[], ◌∷◌, sym, ap, ◌∙◌}
use Rattle.std.proofs.lemmas.Result.{err_from_is_err_and}
use Rattle.roll.specs.Reading.{got, push, read_predicate}
use Rattle.roll.proofs.Scans.{whole, stand_for, are_valid, are_sized}
use Rattle.roll.proofs.predicate.Predicate.parse.Goals as goal

pub returns-in_err-after : goal.returns-in_err-after
unfolding read_predicate
returns-in_err-after c =
    let p = err_from_is_err_and c.from_residual.result c.from_residual.ensures.1 in
    rw (p.1, p.2) (c.in_err-after.ensures 0)

pub returns-in_err-finish : goal.returns-in_err-finish
returns-in_err-finish c =
    let p = err_from_is_err_and c.from_residual-in_err-finish.result c.from_residual-in_err-finish.ensures.1 in
    let s = c.in_ok-after.ensures in
    rw (p.1, p.2) (whole _ _ _ _ _ s ∙ ap (push s.predicate) (sym c.in_err-finish.ensures))

pub invariant_of-result : goal.invariant_of-result
invariant_of-result c =
    record { valid = are_valid _ _ _ _ _ c.in_ok-after.ensures c.new-tokens.ensures; sized = are_sized _ _ _ _ _ c.in_ok-after.ensures c.new-tokens.ensures }

pub returns : goal.returns
returns c =
    let s = c.in_ok-after.ensures in
    whole _ _ _ _ _ s ∙ ap (push s.predicate) (sym c.in_ok-finish.ensures)
    ∙ ap (λ p. got (p ∷ [])) (sym (stand_for _ _ _ _ _ s c.new-tokens.ensures))
