-- Predicates on a row, how many rows of a roll a predicate counts, and the bytes of a predicate.
use Rattle.std.specs.Prelude.{ℕ, suc, ◌+◌, ◌<◌, Bool, not, ◌&&◌, List, [], ◌∷◌, ◌++◌, ◌==◌, nat_lt, slice_index}
use Rattle.roll.specs.Numbers.{one_if}
use Rattle.roll.specs.Rows.{Row}

-- a test on a row: field f is below k; both of two tests; not a test
pub data Predicate : Type 0 where
  below : ℕ → ℕ → Predicate
  both : Predicate → Predicate → Predicate
  negated : Predicate → Predicate

-- whether the row passes
unfoldable pub passes : Predicate → Row → Bool
passes (below f k) r = nat_lt (slice_index r f) k
passes (both p q) r = passes p r && passes q r
passes (negated p) r = not (passes p r)

-- a row is counted where its field 0 is 1 and it passes
unfoldable pub counted : Predicate → Row → Bool
counted p r = slice_index r 0 == 1 && passes p r

-- how many rows of the roll are counted
unfoldable pub count : Predicate → List Row → ℕ
count p [] = 0
count p (r ∷ rs) = one_if (counted p r) + count p rs

-- the bytes of a predicate, in prefix order: 1, the field and the number; 2 and both tests; 3 and the test
abbrev pub encode : Predicate → List ℕ
encode (below f k) = 1 ∷ f ∷ k ∷ []
encode (both p q) = 2 ∷ (encode p ++ encode q)
encode (negated p) = 3 ∷ encode p

-- how many tokens a predicate has
abbrev pub tokens : Predicate → ℕ
tokens (below f k) = 1
tokens (both p q) = suc (tokens p + tokens q)
tokens (negated p) = suc (tokens p)

-- each field that is tested is one of a row's sixteen
abbrev pub Fields : Predicate → Type 0
Fields (below f k) = f < 16
Fields (both p q) = Fields p × Fields q
Fields (negated p) = Fields p
