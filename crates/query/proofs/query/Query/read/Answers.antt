use Rattle.std.proofs.Common.{◌∷◌, length, sym, ap, ◌∙◌}
use Rattle.std.proofs.lemmas.Result.{err_from_is_err_and}
use Rattle.query.specs.Lines.{read_query}
use Rattle.query.proofs.Lines.{no_kind}
use Rattle.query.proofs.query.Query.read.Goals as goal

pub returns-in_err-try_from : goal.returns-in_err-try_from
returns-in_err-try_from c =
    let first = c.in_ok-rest.field-0-0 in
    let analyst = c.in_ok-analyst.analyst in
    let kind = c.in_ok-kind.kind in
    let rest = c.in_ok-kind.rest.bytes.now in
    let line = sym c.of.ensures.0 ∙ c.in_ok-rest.ensures.0 ∙ ap (λ l. first ∷ l) (c.in_ok-analyst.ensures.0 ∙ ap (λ l. analyst ∷ l) c.in_ok-kind.ensures.0) in
    let p = err_from_is_err_and c.from_residual-in_err-try_from.result c.from_residual-in_err-try_from.ensures.1 in
    rw (p.1, p.2, c.in_err-try_from.ensures.0)
    (ap read_query line ∙ no_kind (length (first ∷ analyst ∷ kind ∷ rest)) first analyst kind rest c.in_err-try_from.ensures.1)
