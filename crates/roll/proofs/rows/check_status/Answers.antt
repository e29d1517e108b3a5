use Rattle.std.proofs.Common.{rules, sym, Some, None}
use Rattle.std.proofs.lemmas.Iterator.{IsFirst-from_position, YieldsList-from_slice}
use Rattle.std.proofs.lemmas.Bool.{ltb-true, ltb-false}
use Rattle.roll.proofs.Misfits.{Misfit, Fits, first_misfit}
use Rattle.roll.proofs.rows.check_status.Goals as goal

pub returns-in-Some : goal.returns-in-Some
returns-in-Some c =
    sym (first_misfit _ (Some c.in-Some.place)
    (IsFirst-from_position _ _ _ Misfit Fits c.in-Some.ensures.ran (YieldsList-from_slice c.args.rows.now cc) (λ x q k. search (rules, ltb-true)) (λ x q k. search (rules, ltb-false))))

pub returns-in-None : goal.returns-in-None
returns-in-None c =
    sym (first_misfit _ None
    (IsFirst-from_position _ _ _ Misfit Fits c.in-None.ensures.ran (YieldsList-from_slice c.args.rows.now cc) (λ x q k. search (rules, ltb-true)) (λ x q k. search (rules, ltb-false))))
