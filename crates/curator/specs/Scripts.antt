-- A list of lines in a file, and what a journal is told of their run.
use Rattle.std.specs.Prelude.{◌≡◌, ℕ, zero, suc, ◌+◌, ◌*◌, List, [], ◌∷◌, map, length, take, drop, slice_index, slice_index_or}
use Rattle.curator.specs.declared.outcome.Outcome.{Outcome as Given}
use Rattle.curator.specs.Curator.{Outcome, Strategy}
use Rattle.curator.specs.Served.{outcome_of}

-- the length of the first line: two bytes, low byte first
abbrev pub line_size : List ℕ → ℕ
line_size bytes = slice_index bytes 0 + 256 * slice_index bytes 1

-- the bytes of the first line that are there
abbrev pub first_line : List ℕ → List ℕ
first_line bytes = take (line_size bytes) (drop 2 bytes)

-- what follows the first line
abbrev pub after_line : List ℕ → List ℕ
after_line bytes = drop (line_size bytes) (drop 2 bytes)

-- at most n lines, each after its length; the last has its bytes that are there
unfoldable pub lines_within : ℕ → List ℕ → List (List ℕ)
lines_within zero bytes = []
lines_within (suc n) [] = []
lines_within (suc n) (b ∷ bytes) = first_line (b ∷ bytes) ∷ lines_within n (after_line (b ∷ bytes))

-- all lines: there are no more than bytes
unfoldable pub lines_in : List ℕ → List (List ℕ)
lines_in bytes = lines_within (length bytes) bytes

-- whoever write these lines, whatever the outcomes
abbrev pub script : List (List ℕ) → Strategy
script lines sofar = slice_index_or lines (length sofar) []

-- a journal went from one state to another as it was told of these outcomes, one after the other
abbrev pub Chain : {J : Type 0} → (J → Given → J → Type 0) → J → List Given → J → Type 0
Chain notes from [] to = from ≡ to
Chain {J} notes from (o ∷ os) to = (between : J) × notes from o between × Chain notes between os to

-- it was told of the outcomes of a transcript
abbrev pub Told : {J : Type 0} → (J → Given → J → Type 0) → J → List Outcome → J → Type 0
Told notes from t to = (os : List Given) × Chain notes from os to × (map outcome_of os ≡ t)
