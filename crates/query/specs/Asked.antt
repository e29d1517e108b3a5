-- What a query in memory stands for, and what its reader hands back.
use Rattle.std.specs.Prelude.{◌≡◌, ℕ, ◌≤◌, true, false, List, length, drop, Some, None, Ok, Err, Option, Result, slice_index}
use Rattle.roll.specs.declared.refusal.Refusal.{Refusal}
use Rattle.roll.specs.declared.rest.Rest.{Rest}
use Rattle.roll.specs.Lists.{listed}
use Rattle.roll.specs.Predicates.{Predicate, counted}
use Rattle.roll.specs.Reading.{place_in}
use Rattle.roll.specs.Refusals.{number, place}
use Rattle.roll.specs.Rows.{Row}
use Rattle.roll.specs.Stored.{predicate_of}
use Rattle.query.specs.declared.counts.Counts.{Counts}
use Rattle.query.specs.declared.cuts.Cuts.{Cuts}
use Rattle.query.specs.declared.query.Asked.{Asked}
use Rattle.query.specs.declared.query.Query.{Query as Stored}
use Rattle.query.specs.declared.query.Query.TheVariants.{Count, Table}
use Rattle.query.specs.Lines.{Asking, asked, malformed}
use Rattle.query.specs.Query.{Query, count_of, table_of, cell}

-- the numbers that a table is cut at
abbrev pub cuts_of : Cuts → List ℕ
cuts_of c = listed c.cuts

-- the query that one in memory stands for
abbrev pub query_of : Stored → Query
query_of (Count p) = count_of (predicate_of p)
query_of (Table p f c) = table_of (predicate_of p) f.number (cuts_of c)

-- the counts of the cells, in their order
abbrev pub numbers_of : Counts → List ℕ
numbers_of c = listed c.0

-- a rest of the line: the bytes from its place on to the end of the line
abbrev pub RestOf : List ℕ → Rest → Type 0
RestOf line r = (r.end ≡ length line) × (drop (place_in r.end r.bytes.now) line ≡ r.bytes.now)

-- a check of some bytes: where it passes, whatever is read after them is what is read, and where it fails it is the refusal
abbrev pub Check : {X : Type 0} → Result X Refusal → (Asking → Asking) → Type 0
Check (Ok v) f = (x : Asking) → f x ≡ x
Check (Err e) f = (x : Asking) → f x ≡ malformed (number e) (place e)

-- the cell that counts the row in a table by the field f, if the predicate counts it
abbrev pub CellOf : Option ℕ → Predicate → ℕ → List ℕ → Row → Type 0
CellOf None p f ks r = counted p r ≡ false
CellOf (Some i) p f ks r = (counted p r ≡ true) × (i ≤ length ks) × (i ≡ cell ks (slice_index r f))

-- the query that was read and who asks it, or the refusal
abbrev pub Answered : Result Asked Refusal → Asking → Type 0
Answered (Ok q) x = x ≡ asked q.analyst (query_of q.query)
Answered (Err e) x = x ≡ malformed (number e) (place e)

-- the query that was read, whoever asks it, or the refusal
abbrev pub ReadAs : Result Stored Refusal → (ℕ → Asking) → Type 0
ReadAs (Ok q) x = (a : ℕ) → x a ≡ asked a (query_of q)
ReadAs (Err e) x = (a : ℕ) → x a ≡ malformed (number e) (place e)
