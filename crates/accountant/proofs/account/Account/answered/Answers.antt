use Rattle.std.proofs.Common.{◌≡◌, Some, sym, ap, ◌∙◌}
use Rattle.std.specs.Option.{unwrap_or}
use Rattle.query.specs.Asked.{query_of}
use Rattle.noise.specs.Released.{numbers_of}
use Rattle.budget.specs.Budget.{budgets_of, held}
use Rattle.accountant.specs.Accountant.{query_of_line, if_left, answer_to}
use Rattle.accountant.specs.Reckoned.{standing_of, asked_of}
use Rattle.accountant.proofs.Entries.{by_left}
use Rattle.accountant.proofs.account.Account.answered.Goals as goal

pub returns : goal.returns
returns c =
    let answer = c.args.answer.now in
    let asked = c.in_ok-asked.asked in
    let after = c.in_ok-charge.field-0 in
    let s = standing_of c.args.self in
    let is : asked_of (Some asked) ≡ query_of_line c.args.line.now = ap asked_of (sym c.in_ok-asked.ensures.ok_part) ∙ c.asked_in.ensures in
    c.leaves.ensures
    ∙ ap (λ n. if_left answer.left (unwrap_or (held (budgets_of after.budgets) n) 0) (standing_of after)) c.from.ensures
    ∙ sym (by_left s _ asked.analyst (query_of asked.query) answer.analyst (numbers_of answer.released) answer.left c.in_ok-fits.ensures c.in_ok-charge.ensures)
    ∙ ap (λ x. answer_to s x answer.analyst (numbers_of answer.released) answer.left) is
