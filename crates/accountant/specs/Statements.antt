-- What the accountant promises.
use Rattle.std.specs.Prelude.{◌≡◌, ℕ, ◌+◌, List, [], length, Ok}
use Rattle.roll.specs.Numbers.{total}
use Rattle.roll.specs.Rows.{Row}
use Rattle.curator.specs.Curator.{Outcome, Strategy, transcript_of, state_of, spent_of}
use Rattle.curator.specs.Scripts.{script}
use Rattle.accountant.specs.Accountant.{Standing, standing, audited, written}

-- what the curator's budgets hold after n lines of a strategy, and what was spent on the way
abbrev pub curator_standing : Strategy → ℕ → List Row → List ℕ → List ℕ → Standing
curator_standing write n roll budgets tape =
    standing (state_of write n roll budgets tape).budgets (spent_of write (length roll) (length tape) budgets (transcript_of write n roll budgets tape))

-- for every run of the curator, from any opening and with any tape, the accountant's answer is what the curator's budgets hold and what was spent
pub record Audits : Type 0 where
  -- whoever write the lines, each from all outcomes so far
  pub strategies :
      (write : Strategy) (n : ℕ) (roll : List Row) (budgets tape : List ℕ) →
      audited budgets (written write [] (transcript_of write n roll budgets tape)) (transcript_of write n roll budgets tape)
      ≡ Ok (curator_standing write n roll budgets tape)
  -- and so for a list of lines
  pub scripts :
      (lines : List (List ℕ)) (roll : List Row) (budgets tape : List ℕ) →
      audited budgets lines (transcript_of (script lines) (length lines) roll budgets tape) ≡ Ok (curator_standing (script lines) (length lines) roll budgets tape)

-- what the budgets hold follows from the opening's budgets, the lines and the outcomes, and together with what was spent it is what they held
pub record Kept : Type 0 where
  -- what the accountant works out from the transcript of n lines is what the curator's budgets hold
  pub follows :
      (write : Strategy) (n : ℕ) (roll : List Row) (budgets tape : List ℕ) →
      (s : Standing) × (audited budgets (written write [] (transcript_of write n roll budgets tape)) (transcript_of write n roll budgets tape) ≡ Ok s)
      × ((state_of write n roll budgets tape).budgets ≡ s.budgets)
  -- what the curator's budgets hold is, with what was spent on the way to the transcript, what they held
  pub spends :
      (write : Strategy) (n : ℕ) (roll : List Row) (budgets tape : List ℕ) →
      total (state_of write n roll budgets tape).budgets + spent_of write (length roll) (length tape) budgets (transcript_of write n roll budgets tape) ≡ total budgets
  -- from any lines and outcomes: what the accountant says to be left and to be spent is together what the budgets held
  pub balances :
      (budgets : List ℕ) (lines : List (List ℕ)) (os : List Outcome) (s : Standing) → audited budgets lines os ≡ Ok s →
      total s.budgets + s.spent ≡ total budgets
