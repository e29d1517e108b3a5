use Rattle.std.proofs.Common.{◌≡◌, Err, unwrap_or, refl, arith}
use Rattle.std.proofs.lemmas.Grind.{common_steps}
use Rattle.budget.specs.Budget.{budgets_of, held}
use Rattle.curator.proofs.Replies.{refused_turn, answered_turn}
use Rattle.curator.proofs.curator.Curator.answer.Goals as goal

pub returns-in_err-page : goal.returns-in_err-page
returns-in_err-page c =
    let is : c.from_residual.result ≡ Err c.in_err-page.field-0.0 = grind (arith, common_steps) in
    let took = c.in_err-page.ensures in
    rw is (refused_turn took.verdict refl took.budgets took.tape)

pub returns : goal.returns
returns c =
    let took = c.in_ok-page.ensures in
    let left : c.unwrap_or-left.result ≡ unwrap_or (held (budgets_of c.admit.new.self.budgets) c.args.asked.now.analyst) 0 = cc in
    answered_turn took.verdict took.page c.release_query-released.ensures left refl took.budgets took.tape
