-- The curator over a whole run: what each line leads to, what it costs, and the state that it leaves.
use Rattle.std.specs.Prelude.{◌≡◌, ℕ, zero, suc, ◌+◌, ◌-◌, ◌*◌, ◌/◌, Bool, true, false, cond, ◌&&◌, List, [], ◌∷◌, ◌++◌, length, take, drop, Some, None, Option, ◌==◌, nat_lt, slice_index, slice_set}
use Rattle.roll.specs.Numbers.{same}
use Rattle.roll.specs.Rows.{Row}
use Rattle.query.specs.Query.{Query, cells, cost, counts}
use Rattle.noise.specs.Dial.{Dial, our_dial}
use Rattle.noise.specs.Release.{all_released}
use Rattle.noise.specs.Words.{words_of}
use Rattle.budget.specs.Budget.{payment_refusal, pay}
use Rattle.curator.specs.Lines.{Command, edit, ask, reject, read_line}

-- what everybody learns of a line: which analyst was answered with which numbers, and what that analyst's budget then holds; that a row was edited; or the refusal's number and place
pub data Outcome : Type 0 where
  answered : ℕ → List ℕ → ℕ → Outcome
  edited : Outcome
  refused : ℕ → ℕ → Outcome

-- the most cells of a query; one with more is for the reader of lines to refuse
abbrev pub most_cells : ℕ
most_cells = 64

-- the words of one page
abbrev pub page : Dial → ℕ
page d = most_cells * d.tries

-- the refusal of a query, if it is refused: no page is left, there is no such analyst, or the budget is below the cost. It follows from the words left
-- on the tape, the budgets and the query, and from no row
unfoldable pub verdict : Dial → ℕ → List ℕ → ℕ → Query → Option (ℕ × ℕ)
verdict d left budgets analyst q = cond (nat_lt left (page d)) (Some (20, 0)) (payment_refusal budgets analyst (cost q))

-- one value where a query is granted, and another from the number and the place where it is refused
unfoldable pub by_verdict : {A : Type 0} → Option (ℕ × ℕ) → A → (ℕ → ℕ → A) → A
by_verdict None a f = a
by_verdict (Some e) a f = f e.0 e.1

-- how many words a line takes from the tape: a page where it is a query and a page is left
unfoldable pub taken : Dial → ℕ → Command → ℕ
taken d left (edit i r) = 0
taken d left (reject n k) = 0
taken d left (ask analyst q) = cond (nat_lt left (page d)) 0 (page d)

-- what a line leads to, by the words that it takes
unfoldable pub reply : Dial → ℕ → List ℕ → Command → List Row → List ℕ → Outcome
reply d left budgets (edit i r) roll words = edited
reply d left budgets (reject n k) roll words = refused n k
reply d left budgets (ask analyst q) roll words =
    by_verdict (verdict d left budgets analyst q) (answered analyst (all_released d (counts (cells q) roll) words) (slice_index budgets analyst - cost q)) refused

-- the units that a granted query costs, by its outcome
unfoldable pub charge : Query → Outcome → ℕ
charge q (answered analyst xs left) = cost q
charge q edited = 0
charge q (refused n k) = 0

-- the units that a line costs
unfoldable pub price : Dial → ℕ → List ℕ → Command → Outcome → ℕ
price d left budgets (edit i r) o = 0
price d left budgets (reject n k) o = 0
price d left budgets (ask analyst q) o = by_verdict (verdict d left budgets analyst q) (charge q o) (λ n k. 0)

-- what the budgets hold after a line, from what they held, the words left on the tape, the line and its outcome alone
unfoldable pub paid : Dial → ℕ → List ℕ → Command → Outcome → List ℕ
paid d left budgets (edit i r) o = budgets
paid d left budgets (reject n k) o = budgets
paid d left budgets (ask analyst q) o = pay budgets analyst (price d left budgets (ask analyst q) o)

-- the roll after a line
unfoldable pub edited_roll : List Row → Command → List Row
edited_roll roll (edit i r) = slice_set roll i r
edited_roll roll (reject n k) = roll
edited_roll roll (ask analyst q) = roll

-- the roll, the budgets, and what is left of the tape
pub record State : Type 0 where
  pub roll : List Row
  pub budgets : List ℕ
  pub tape : List ℕ

-- the state at the opening
abbrev pub opening : List Row → List ℕ → List ℕ → State
opening roll budgets tape = record { roll = roll; budgets = budgets; tape = tape }

-- what a line leads to in a state
unfoldable pub outcome : Dial → State → Command → Outcome
outcome d s c = reply d (length s.tape) s.budgets c s.roll (take (taken d (length s.tape) c) s.tape)

-- the state after a line with an outcome
unfoldable pub step : Dial → State → Command → Outcome → State
step d s c o =
    record {
      roll = edited_roll s.roll c;
      budgets = paid d (length s.tape) s.budgets c o;
      tape = drop (taken d (length s.tape) c) s.tape;
    }

-- in the state s a line leads to the outcome o and to the state t
pub record Leads (d : Dial) (s : State) (c : Command) (o : Outcome) (t : State) : Type 0 where
  pub outcome_is : o ≡ outcome d s c
  pub state_is : t ≡ step d s c o

-- what the next line asks for, from all outcomes so far
abbrev pub Commands : Type 0
Commands = List Outcome → Command

-- the outcomes of n lines, given those before
unfoldable pub transcript : Dial → Commands → ℕ → State → List Outcome → List Outcome
transcript d next zero s sofar = []
transcript d next (suc n) s sofar =
    let o = outcome d s (next sofar) in
    o ∷ transcript d next n (step d s (next sofar) o) (sofar ++ (o ∷ []))

-- the state after n lines
unfoldable pub state_after : Dial → Commands → ℕ → State → List Outcome → State
state_after d next zero s sofar = s
state_after d next (suc n) s sofar =
    let o = outcome d s (next sofar) in
    state_after d next n (step d s (next sofar) o) (sofar ++ (o ∷ []))

-- the units spent on the way to the transcript t, worked out from the words on the tape, the opening's budgets, the lines and the outcomes
unfoldable pub spent : Dial → Commands → ℕ → List ℕ → List Outcome → List Outcome → ℕ
spent d next left budgets sofar [] = 0
spent d next left budgets sofar (o ∷ t) =
    price d left budgets (next sofar) o
    + spent d next (left - taken d left (next sofar)) (paid d left budgets (next sofar) o) (sofar ++ (o ∷ [])) t

-- whether two outcomes are the same
unfoldable pub same_outcome : Outcome → Outcome → Bool
same_outcome (answered a xs u) (answered b ys v) = a == b && (u == v && same xs ys)
same_outcome (answered a xs u) edited = false
same_outcome (answered a xs u) (refused n k) = false
same_outcome edited (answered b ys v) = false
same_outcome edited edited = true
same_outcome edited (refused n k) = false
same_outcome (refused n k) (answered b ys v) = false
same_outcome (refused n k) edited = false
same_outcome (refused n k) (refused m l) = n == m && k == l

-- whether two transcripts are the same
unfoldable pub same_transcript : List Outcome → List Outcome → Bool
same_transcript [] [] = true
same_transcript [] (p ∷ ps) = false
same_transcript (o ∷ os) [] = false
same_transcript (o ∷ os) (p ∷ ps) = same_outcome o p && same_transcript os ps

-- two lines that are the same, or that give place i each a row
pub data Alike (i : ℕ) : Command → Command → Type 0 where
  equal : {c : Command} → Alike i c c
  own_edit : {r s : Row} → Alike i (edit i r) (edit i s)

-- a line is a list of bytes: whoever write the lines, all together, choose each from all outcomes so far
abbrev pub Strategy : Type 0
Strategy = List Outcome → List ℕ

-- the commands of a strategy's lines, for a roll of so many places
abbrev pub commands : ℕ → Strategy → Commands
commands places write sofar = read_line places (write sofar)

-- the opening of a roll, budgets and a tape of bytes, of which all whole words count
abbrev pub at_opening : List Row → List ℕ → List ℕ → State
at_opening roll budgets tape = opening roll budgets (words_of tape)

-- the transcript of n lines of a strategy, from the opening on, by our dial and a tape of bytes
unfoldable pub transcript_of : Strategy → ℕ → List Row → List ℕ → List ℕ → List Outcome
transcript_of write n roll budgets tape = transcript our_dial (commands (length roll) write) n (at_opening roll budgets tape) []

-- the state after them
unfoldable pub state_of : Strategy → ℕ → List Row → List ℕ → List ℕ → State
state_of write n roll budgets tape = state_after our_dial (commands (length roll) write) n (at_opening roll budgets tape) []

-- the units that a strategy spends on the way to t, with so many places and a tape of so many bytes
unfoldable pub spent_of : Strategy → ℕ → ℕ → List ℕ → List Outcome → ℕ
spent_of write places size budgets t = spent our_dial (commands places write) (size / 8) budgets [] t
