-- How a line is read: an edit of a place, a query of an analyst, or a refusal with its number and place.
use Rattle.std.specs.Prelude.{ℕ, ◌+◌, ◌*◌, cond, List, [], ◌∷◌, length, drop, Some, None, Option, ◌==◌, slice_index}
use Rattle.roll.specs.Rows.{Row, edit_refusal}
use Rattle.query.specs.Lines.{Asking, asked, malformed, read_query}
use Rattle.query.specs.Query.{Query}

-- what a line asks for: to give a place another row; to answer an analyst's query; or nothing, where it is refused as it is read
pub data Command : Type 0 where
  edit : ℕ → Row → Command
  ask : ℕ → Query → Command
  reject : ℕ → ℕ → Command

-- the place that an edit names: two bytes, low byte first
abbrev pub edit_place : List ℕ → ℕ
edit_place line = slice_index line 1 + 256 * slice_index line 2

-- an edit, unless it is refused
abbrev pub edit_unless : Option (ℕ × ℕ) → ℕ → Row → Command
edit_unless None place row = edit place row
edit_unless (Some e) place row = reject e.0 e.1

-- an edit has 19 bytes: its kind, the place, and the new row; it is taken or refused by the number of places
abbrev pub read_edit : ℕ → List ℕ → Command
read_edit places line =
    cond (length line == 19) (edit_unless (edit_refusal places (edit_place line) (drop 3 line)) (edit_place line) (drop 3 line)) (reject 6 (length line))

-- a query, or the refusal of its reading
abbrev pub ask_or : Asking → Command
ask_or (asked analyst q) = ask analyst q
ask_or (malformed n k) = reject n k

-- a line by its first byte, its kind: 1 for an edit, 2 for a query
unfoldable pub read_line : ℕ → List ℕ → Command
read_line places [] = reject 5 0
read_line places (kind ∷ rest) =
    cond (kind == 1) (read_edit places (kind ∷ rest)) (cond (kind == 2) (ask_or (read_query (kind ∷ rest))) (reject 5 0))
