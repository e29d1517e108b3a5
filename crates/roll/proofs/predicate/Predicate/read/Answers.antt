use Rattle.std.proofs.Common.{ap, arith, refl, length}
use Rattle.std.proofs.lemmas.List.{drop_all}
use Rattle.std.proofs.lemmas.Result.{err_from_is_err_and}
use Rattle.roll.specs.Reading.{read_predicate}
use Rattle.roll.proofs.predicate.Predicate.read.Goals as goal

pub returns-in_err-skip : goal.returns-in_err-skip
unfolding read_predicate
returns-in_err-skip c =
    let p = err_from_is_err_and c.from_residual.result c.from_residual.ensures.1 in
    let told = c.in_err-skip.ensures in
    rw (p.1, p.2, drop_all c.args.start c.args.line.now (omega (arith, told.0, ap length c.of.ensures.0)), told.1, c.of.ensures.1) refl
