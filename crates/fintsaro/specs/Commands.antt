-- What the words of the command line ask for.
use Rattle.std.specs.Prelude.{◌≡◌, ℕ, ◌<◌, ◌≤◌, Bool, true, List, [], ◌∷◌, codes, length, Option, None, IsSomeAnd}
use Rattle.std.specs.Borrow.{Bor}
use Rattle.fintsaro.specs.Places.{Spelled, spelled}
use Rattle.fintsaro.specs.declared.command.Command.{Command}
use Rattle.fintsaro.specs.declared.command.Command.TheVariants.{Usage, Serve}

-- a run is served with 1 to 32,768 places
abbrev pub Servable : Command → Type 0
Servable Usage = Unit {0}
Servable (Serve files options) = (1 ≤ options.places.number) × (options.places.number ≤ 32768)

-- the words ask how the program is used: there are none, or the one word is --help
abbrev pub AsksUse : List (Bor (List ℕ)) → Type 0
AsksUse [] = Unit {0}
AsksUse (word ∷ []) = word.now ≡ codes "--help"
AsksUse (word ∷ (next ∷ rest)) = ⊥

-- a command serves the run of two files so
abbrev pub Serves : ℕ → Bool → Bool → List ℕ → List ℕ → Command → Type 0
Serves places errors audit run tape Usage = ⊥
Serves places errors audit run tape (Serve files options) =
    (files.run.now ≡ run) × (files.tape.now ≡ tape) × (options.places.number ≡ places) × (options.errors ≡ errors) × (options.audit ≡ audit)

-- the words after the run file name the tape alone
abbrev pub NamesTape : ℕ → Bool → Bool → List ℕ → List (Bor (List ℕ)) → Option Command → Type 0
NamesTape places errors audit run [] r = r ≡ None
NamesTape places errors audit run (tape ∷ rest) r = (length rest ≡ 0 → IsSomeAnd r (Serves places errors audit run tape.now)) × (0 < length rest → r ≡ None)

abbrev mutual
  -- r is the run that the words ask for, after options that said so many places, and whether errors are told and accounts follow
  pub AsksRun : ℕ → Bool → Bool → List (Bor (List ℕ)) → Option Command → Type 0
  AsksRun places errors audit [] r = r ≡ None
  AsksRun places errors audit (word ∷ rest) r =
      (word.now ≡ codes "--places" → AsksPlaces errors audit rest r)
      × (word.now ≡ codes "--errors" → AsksRun places true audit rest r)
      × (word.now ≡ codes "--audit" → AsksRun places errors true rest r)
      × (¬ (word.now ≡ codes "--places") → ¬ (word.now ≡ codes "--errors") → ¬ (word.now ≡ codes "--audit") → NamesTape places errors audit word.now rest r)

  -- the same where the number of places is next
  pub AsksPlaces : Bool → Bool → List (Bor (List ℕ)) → Option Command → Type 0
  AsksPlaces errors audit [] r = r ≡ None
  AsksPlaces errors audit (number ∷ rest) r = (Spelled number.now → AsksRun (spelled number.now) errors audit rest r) × (¬ (Spelled number.now) → r ≡ None)
