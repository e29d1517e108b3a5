-- How a query line is read, where it is refused, and the bytes of a query.
use Rattle.std.specs.Prelude.{◌≡◌, ℕ, zero, suc, ◌+◌, ◌<◌, ◌≤◌, Bool, true, cond, not, ◌&&◌, ◌||◌, List, [], ◌∷◌, ◌++◌, length, take, drop, ◌==◌, nat_lt, slice_index}
use Rattle.roll.specs.Predicates.{Predicate, encode, tokens, Fields}
use Rattle.roll.specs.Reading.{Reading, got, refused, place_in, read_predicate, first}
use Rattle.query.specs.Query.{Query, count_of, table_of}

-- which analyst asks which query, or the number and the place of the refusal
pub data Asking : Type 0 where
  asked : ℕ → Query → Asking
  malformed : ℕ → ℕ → Asking

-- an analyst's query about the predicate that was read, or the predicate's refusal
abbrev pub about : ℕ → (Predicate → Query) → Reading → Asking
about a q (got ps) = asked a (q (first ps))
about a q (refused n k) = malformed n k

-- n cuts, none below `low` and each above the one before; then x
abbrev pub rising : ℕ → ℕ → ℕ → List ℕ → Asking → Asking
rising end low zero bs x = x
rising end low (suc n) [] x = malformed 9 end
rising end low (suc n) (k ∷ bs) x = cond (nat_lt k low) (malformed 13 (place_in end (k ∷ bs))) (rising end (k + 1) n bs x)

-- a table's field, the number of its cuts, and the cuts; then what the field, the cuts and the bytes after them give
abbrev pub by_cuts : ℕ → List ℕ → (ℕ → List ℕ → List ℕ → Asking) → Asking
by_cuts end [] x = malformed 9 end
by_cuts end (f ∷ []) x = cond (nat_lt 15 f) (malformed 11 3) (malformed 9 end)
by_cuts end (f ∷ n ∷ bs) x =
    cond (nat_lt 15 f) (malformed 11 3)
    (cond (n == 0 || nat_lt 63 n) (malformed 12 4) (rising end 0 n bs (x f (take n bs) (drop n bs))))

-- a count: its predicate to the end of the line
abbrev pub count_line : ℕ → ℕ → List ℕ → Asking
count_line end a bs = about a count_of (read_predicate end bs)

-- a table: its field and its cuts, and its predicate to the end of the line
abbrev pub table_line : ℕ → ℕ → List ℕ → Asking
table_line end a bs = by_cuts end bs (λ f ks rest. about a (λ p. table_of p f ks) (read_predicate end rest))

-- the kind of the line, the analyst, 1 for a count or 2 for a table, and the rest
abbrev pub query_line : ℕ → List ℕ → Asking
query_line end [] = malformed 9 end
query_line end (b ∷ []) = malformed 9 end
query_line end (b ∷ a ∷ []) = malformed 9 end
query_line end (b ∷ a ∷ s ∷ bs) = cond (s == 1) (count_line end a bs) (cond (s == 2) (table_line end a bs) (malformed 10 2))

-- a line of kind 2, whose first byte was looked at before
abbrev pub read_query : List ℕ → Asking
read_query line = query_line (length line) line

-- the line of an analyst's query
abbrev pub encode_query : ℕ → Query → List ℕ
encode_query a (count_of p) = 2 ∷ a ∷ 1 ∷ encode p
encode_query a (table_of p f ks) = 2 ∷ a ∷ 2 ∷ f ∷ length ks ∷ (ks ++ encode p)

-- whether none of the numbers is below `low` and each is above the one before
abbrev pub rises : ℕ → List ℕ → Bool
rises low [] = true
rises low (k ∷ ks) = not (nat_lt k low) && rises (k + 1) ks

-- a predicate of at most 64 tokens, each of its fields one of a row's
abbrev pub Sound : Predicate → Type 0
Sound p = Fields p × (tokens p ≤ 64)

-- a query as the rules allow it: a sound predicate, a field of a row, 1 to 63 cuts that rise
abbrev pub WellFormed : Query → Type 0
WellFormed (count_of p) = Sound p
WellFormed (table_of p f ks) = (f < 16) × (0 < length ks) × (length ks ≤ 63) × (rises 0 ks ≡ true) × Sound p

-- a well-formed query is read again from the line that encodes it
abbrev pub QueryReadsEncoded : Type 0
QueryReadsEncoded = (a : ℕ) (q : Query) → WellFormed q → read_query (encode_query a q) ≡ asked a q

-- a line of kind 2 that is read as a query is exactly the line that encodes it, and the query is well-formed
abbrev pub QueryEncodesRead : Type 0
QueryEncodesRead =
    (line : List ℕ) (a : ℕ) (q : Query) → slice_index line 0 ≡ 2 → read_query line ≡ asked a q →
    (line ≡ encode_query a q) × WellFormed q
