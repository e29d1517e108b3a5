-- The accountant: what the budgets hold and how many units were spent, from the opening's budgets, the lines and the outcomes alone.
use Rattle.std.specs.Prelude.{ℕ, suc, ◌+◌, ◌-◌, cond, List, [], ◌∷◌, ◌++◌, length, Some, None, Ok, Err, Option, Result, ◌==◌, slice_index}
use Rattle.query.specs.Query.{Query, cells, cost}
use Rattle.budget.specs.Budget.{payment_refusal, pay}
use Rattle.curator.specs.Lines.{Command, edit, ask, reject, read_line}
use Rattle.curator.specs.Curator.{Outcome, answered, edited, refused, Strategy}
use Rattle.accountant.specs.declared.impossible.Flaw.{Flaw}
use Rattle.accountant.specs.declared.impossible.Flaw.TheVariants.{NoQuery, OtherAnalyst, CellCount, NoSuchAnalyst, BudgetTooLow, BudgetLeft, NoLine, NoOutcome}
use Rattle.accountant.specs.declared.impossible.Impossible.{Impossible}

-- what the budgets hold, and the units that were spent
pub record Standing : Type 0 where
  pub budgets : List ℕ
  pub spent : ℕ

-- some budgets of which so many units were spent before
abbrev pub standing : List ℕ → ℕ → Standing
standing budgets spent = record { budgets = budgets; spent = spent }

-- the analyst and the query that a command asks for, if it is one
abbrev pub query_in : Command → Option (ℕ × Query)
query_in (edit i r) = None
query_in (ask analyst q) = Some (analyst, q)
query_in (reject n k) = None

-- the analyst and the query of a line. A query is read alike whatever the number of places, so none are counted here
abbrev pub query_of_line : List ℕ → Option (ℕ × Query)
query_of_line line = query_in (read_line 0 line)

-- where a payment is not refused; with 18 there is no such analyst, with 19 the budget is below the cost
abbrev pub if_paid : Option (ℕ × ℕ) → Result Standing Flaw → Result Standing Flaw
if_paid None s = s
if_paid (Some e) s = Err (cond (e.0 == 18) NoSuchAnalyst BudgetTooLow)

-- after an analyst has paid a cost
abbrev pub charged : Standing → ℕ → ℕ → Standing
charged s analyst cost = standing (pay s.budgets analyst cost) (s.spent + cost)

-- after an analyst has paid a cost, unless the payment is refused
abbrev pub paying : Standing → ℕ → ℕ → Result Standing Flaw
paying s analyst cost = if_paid (payment_refusal s.budgets analyst cost) (Ok (charged s analyst cost))

-- why an answer to `who` is none to this analyst's query, if it is none: it names another analyst, or has not one number for each cell
abbrev pub misfit : ℕ → Query → ℕ → List ℕ → Option Flaw
misfit analyst q who numbers =
    cond (who == analyst) (cond (length numbers == length (cells q)) None (Some CellCount)) (Some OtherAnalyst)

-- where there is no flaw
abbrev pub unless : Option Flaw → Result Standing Flaw → Result Standing Flaw
unless None s = s
unless (Some flaw) s = Err flaw

-- where what an answer tells to be left is what the analyst then holds
abbrev pub if_left : ℕ → ℕ → Standing → Result Standing Flaw
if_left told holds s = cond (told == holds) (Ok s) (Err BudgetLeft)

-- after an answer to an analyst's query: it fits, it is paid, and it tells what is then left
abbrev pub after_answer : Standing → ℕ → Query → ℕ → List ℕ → ℕ → Result Standing Flaw
after_answer s analyst q who numbers left =
    unless (misfit analyst q who numbers)
    (if_paid (payment_refusal s.budgets analyst (cost q)) (if_left left (slice_index s.budgets analyst - cost q) (charged s analyst (cost q))))

-- after an answer to a line
abbrev pub answer_to : Standing → Option (ℕ × Query) → ℕ → List ℕ → ℕ → Result Standing Flaw
answer_to s None who numbers left = Err NoQuery
answer_to s (Some e) who numbers left = after_answer s e.0 e.1 who numbers left

-- after a line with an outcome. An edit and a refused line cost nothing, and their lines are not read
abbrev pub entered : Standing → List ℕ → Outcome → Result Standing Flaw
entered s line (answered who numbers left) = answer_to s (query_of_line line) who numbers left
entered s line edited = Ok s
entered s line (refused n k) = Ok s

-- what is impossible, and at which line, counted from 0
abbrev pub impossible : ℕ → Flaw → Impossible
impossible i flaw = record { at = i; flaw = flaw }

-- what follows line i, unless it is impossible
abbrev pub then_on : ℕ → Result Standing Flaw → (Standing → Result Standing Impossible) → Result Standing Impossible
then_on i (Ok s) next = next s
then_on i (Err flaw) next = Err (impossible i flaw)

-- after lines with outcomes, one for each line, counted from i
unfoldable pub audited_from : ℕ → Standing → List (List ℕ) → List Outcome → Result Standing Impossible
audited_from i s [] [] = Ok s
audited_from i s [] (o ∷ os) = Err (impossible i NoLine)
audited_from i s (line ∷ lines) [] = Err (impossible i NoOutcome)
audited_from i s (line ∷ lines) (o ∷ os) = then_on i (entered s line o) (λ r. audited_from (suc i) r lines os)

-- after lines with outcomes, from the opening's budgets on; or what no run can give
unfoldable pub audited : List ℕ → List (List ℕ) → List Outcome → Result Standing Impossible
audited budgets lines os = audited_from 0 (standing budgets 0) lines os

-- the lines that a strategy writes on the way to some outcomes, given those before
unfoldable pub written : Strategy → List Outcome → List Outcome → List (List ℕ)
written write sofar [] = []
written write sofar (o ∷ os) = write sofar ∷ written write (sofar ++ (o ∷ [])) os
