-- What a predicate in memory stands for, and what its reader hands back.
use Rattle.std.specs.Prelude.{◌≡◌, ℕ, List, [], ◌∷◌, length, drop, Ok, Err, Result}
use Rattle.roll.specs.declared.refusal.Refusal.{Refusal}
use Rattle.roll.specs.declared.predicate.Predicate.{Predicate as Stored}
use Rattle.roll.specs.Lists.{listed}
use Rattle.roll.specs.Predicates.{Predicate}
use Rattle.roll.specs.Reading.{Reading, got, refused, read_predicate, decoded}
use Rattle.roll.specs.Refusals.{number, place}
use Rattle.roll.specs.Tokens.{spelling}

-- the predicate that it stands for
abbrev pub predicate_of : Stored → Predicate
predicate_of s = decoded (spelling (listed s.tokens))

-- how the part of a line from its place `start` on is read as a predicate
abbrev pub read_from : List ℕ → ℕ → Reading
read_from line start = read_predicate (length line) (drop start line)

-- the predicate that was read, or the refusal
abbrev pub ReadAs : Result Stored Refusal → Reading → Type 0
ReadAs (Ok s) x = x ≡ got (predicate_of s ∷ [])
ReadAs (Err e) x = x ≡ refused (number e) (place e)
