-- Rows of the roll, and which rolls are opened.
use Rattle.std.specs.Prelude.{ℕ, ◌+◌, ◌*◌, ◌/◌, cond, not, ◌||◌, List, [], ◌∷◌, length, Some, None, Option, ◌==◌, nat_lt, slice_index}
use Rattle.std.specs.Simd.{first_chunks}
use Rattle.roll.specs.declared.rows.Roll.{Roll}

-- a row holds the sixteen numbers of one place of the roll; field 0 is 1 for a household and 0 for an empty place
abbrev pub Row : Type 0
Row = List ℕ

-- the rows that some bytes hold, sixteen bytes each
abbrev pub rows_in : List ℕ → List Row
rows_in bytes = first_chunks 16 (length bytes / 16) bytes

-- the rows of a roll, in the order of its places
abbrev pub rows_of : Roll → List Row
rows_of roll = rows_in roll.bytes.now

-- the first place, counted from i, whose row is neither empty nor a household: 2 at that place
unfoldable pub misfit : ℕ → List Row → Option (ℕ × ℕ)
misfit i [] = None
misfit i (r ∷ rs) = cond (nat_lt 1 (slice_index r 0)) (Some (2, i)) (misfit (i + 1) rs)

-- the number and the place of the refusal of a roll of so many places, if it is refused
abbrev pub roll_refusal : ℕ → List ℕ → Option (ℕ × ℕ)
roll_refusal places bytes =
    cond (places == 0 || (nat_lt 32768 places || not (length bytes == 16 * places))) (Some (1, 0)) (misfit 0 (rows_in bytes))

-- the number and the place of the refusal of an edit, if it is refused: there is no such place, or its new row is neither empty nor a household
abbrev pub edit_refusal : ℕ → ℕ → Row → Option (ℕ × ℕ)
edit_refusal places place row = cond (nat_lt place places) (cond (nat_lt 1 (slice_index row 0)) (Some (8, 3)) None) (Some (7, 1))
