-- The run of a run file with a tape.
use Rattle.std.specs.Prelude.{◌≡◌, ℕ, Bool, true, false, List, length}
use Rattle.roll.specs.Rows.{rows_in}
use Rattle.curator.specs.declared.outcome.Outcome.{Outcome as Given}
use Rattle.curator.specs.Curator.{Outcome, State, transcript_of, state_of}
use Rattle.curator.specs.Scripts.{lines_in, script, Told}
use Rattle.fintsaro.specs.Openings.{roll_bytes, budget_bytes, line_bytes}

-- the lines of a run file
abbrev pub lines_of : List ℕ → List (List ℕ)
lines_of file = lines_in (line_bytes file)

-- what everybody learns of the run
abbrev pub learned : List ℕ → List ℕ → List Outcome
learned file tape = transcript_of (script (lines_of file)) (length (lines_of file)) (rows_in (roll_bytes file)) (budget_bytes file) tape

-- the state after its last line
abbrev pub final : List ℕ → List ℕ → State
final file tape = state_of (script (lines_of file)) (length (lines_of file)) (rows_in (roll_bytes file)) (budget_bytes file) tape

-- a journal was told of all that, or of nothing where the opening is refused
abbrev pub ToldOf : {J : Type 0} → (J → Given → J → Type 0) → Bool → List ℕ → List ℕ → J → J → Type 0
ToldOf notes true file tape from to = Told notes from (learned file tape) to
ToldOf notes false file tape from to = from ≡ to
