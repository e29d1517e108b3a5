-- What a line, an outcome and a curator in memory stand for.
use Rattle.std.specs.Prelude.{◌≡◌, ℕ, List, length, Some, None, Ok, Err, Option, Result, MatchResult, ◌≢◌, is_ok, if◌then◌else◌}
use Rattle.roll.specs.declared.refusal.Refusal.{Refusal}
use Rattle.roll.specs.declared.refusal.Refusal.TheVariants.{LineKind}
use Rattle.roll.specs.Refusals.{number, place}
use Rattle.roll.specs.Rows.{Row, edit_refusal}
use Rattle.query.specs.declared.query.Asked.{Asked}
use Rattle.query.specs.Asked.{query_of}
use Rattle.query.specs.Lines.{read_query}
use Rattle.noise.specs.Dial.{our_dial}
use Rattle.noise.specs.Released.{numbers_of}
use Rattle.noise.specs.Words.{words_of}
use Rattle.query.specs.Query.{cost}
use Rattle.budget.specs.Budget.{budgets_of, pay}
use Rattle.curator.specs.declared.command.Command.{Command as Stored}
use Rattle.curator.specs.declared.command.Command.TheVariants.{Edit, Ask}
use Rattle.curator.specs.declared.command.kind.Kind.{Kind}
use Rattle.curator.specs.declared.command.kind.Kind.TheVariants as kind
use Rattle.curator.specs.declared.curator.Curator.{Curator}
use Rattle.curator.specs.declared.outcome.Answer.{Answer}
use Rattle.curator.specs.declared.outcome.Outcome.{Outcome as Given}
use Rattle.curator.specs.declared.outcome.Outcome.TheVariants.{Answered, Edited, Refused}
use Rattle.curator.specs.Lines.{Command, ask, reject, edit_unless, read_edit, ask_or, read_line}
use Rattle.curator.specs.Curator.{Outcome, answered, edited, refused, State, opening, taken}

-- the byte that names a kind of line
abbrev pub kind_byte : Kind → ℕ
kind_byte kind.Edit = 1
kind_byte kind.Query = 2

-- the byte names the kind, or no kind and is refused
abbrev pub Names : ℕ → Result Kind Refusal → Type 0
Names byte r = MatchResult r (λ k. byte ≡ kind_byte k) (λ e. (e ≡ LineKind) × ((k : Kind) → byte ≢ kind_byte k))

-- the command of a query in memory
abbrev pub ask_of : Asked → Command
ask_of a = ask a.analyst (query_of a.query)

-- what a command in memory asks for, with so many places
abbrev pub command_at : ℕ → Stored → Command
command_at places (Edit p row) = edit_unless (edit_refusal places p row) p row
command_at places (Ask a) = ask_of a

-- the command that a line is read as, or the refusal, whatever the number of places
abbrev pub As : (ℕ → Command) → Result Stored Refusal → Type 0
As read (Ok c) = (places : ℕ) → read places ≡ command_at places c
As read (Err e) = (places : ℕ) → read places ≡ reject (number e) (place e)

-- a line
abbrev pub ReadAs : Result Stored Refusal → List ℕ → Type 0
ReadAs r line = As (λ places. read_line places line) r

-- a line that is an edit
abbrev pub ReadEdit : Result Stored Refusal → List ℕ → Type 0
ReadEdit r line = As (λ places. read_edit places line) r

-- a line that is a query
abbrev pub ReadAsk : Result Stored Refusal → List ℕ → Type 0
ReadAsk r line = As (λ places. ask_or (read_query line)) r

-- the outcome of an answer in memory
abbrev pub answer_of : Answer → Outcome
answer_of a = answered a.analyst (numbers_of a.released) a.left

-- the outcome that one in memory stands for
abbrev pub outcome_of : Given → Outcome
outcome_of (Answered a) = answer_of a
outcome_of Edited = edited
outcome_of (Refused e) = refused (number e) (place e)

-- what an edit leads to, by its refusal
abbrev pub edit_outcome : Option (ℕ × ℕ) → Outcome
edit_outcome None = edited
edit_outcome (Some e) = refused e.0 e.1

-- the outcome of what was done, or of its refusal
abbrev pub or_refused : {X : Type 0} → (X → Outcome) → Result X Refusal → Outcome
or_refused f (Ok x) = f x
or_refused f (Err e) = refused (number e) (place e)

-- what a query costs
abbrev pub cost_of : Asked → ℕ
cost_of a = cost (query_of a.query)

-- what the budgets hold after a query, which is paid where it is granted
abbrev pub charged : {X : Type 0} → Result X Refusal → List ℕ → Asked → List ℕ
charged r budgets a = if is_ok r then pay budgets a.analyst (cost_of a) else budgets

-- the state of a curator and the rows that are lent to it
abbrev pub state_by : Curator → List Row → State
state_by c rows = opening rows (budgets_of c.budgets) (words_of c.tape.now)

-- how many words of its tape a query takes
abbrev pub taken_by : Curator → Asked → ℕ
taken_by c a = taken our_dial (length (words_of c.tape.now)) (ask_of a)
