-- The opening of a run file: two bytes, the number of places, low byte first; a row of sixteen bytes for each; one byte, the number of analysts; a byte for each budget.
use Rattle.std.specs.Prelude.{ℕ, ◌+◌, ◌*◌, Bool, cond, ◌&&◌, List, length, take, drop, Some, None, Option, nat_le, slice_index}
use Rattle.roll.specs.Rows.{roll_refusal}
use Rattle.budget.specs.Budget.{opening_refusal}

-- the number of places
abbrev pub place_count : List ℕ → ℕ
place_count file = slice_index file 0 + 256 * slice_index file 1

-- the bytes of the roll
abbrev pub roll_bytes : List ℕ → List ℕ
roll_bytes file = take (16 * place_count file) (drop 2 file)

-- what follows the roll: the number of analysts, their budgets, and the lines
abbrev pub after_roll : List ℕ → List ℕ
after_roll file = drop (16 * place_count file) (drop 2 file)

-- the bytes of the budgets
abbrev pub budget_bytes : List ℕ → List ℕ
budget_bytes file = take (slice_index (after_roll file) 0) (drop 1 (after_roll file))

-- the bytes of the lines
abbrev pub line_bytes : List ℕ → List ℕ
line_bytes file = drop (slice_index (after_roll file) 0) (drop 1 (after_roll file))

-- the file does not end inside its opening
abbrev pub whole : List ℕ → Bool
whole file =
    nat_le 2 (length file)
    && (nat_le (16 * place_count file) (length (drop 2 file)) && (nat_le 1 (length (after_roll file)) && nat_le (slice_index (after_roll file) 0) (length (drop 1 (after_roll file)))))

-- the first of two refusals
abbrev pub first_some : Option (ℕ × ℕ) → Option (ℕ × ℕ) → Option (ℕ × ℕ)
first_some None b = b
first_some (Some a) b = Some a

-- the number and the place of the refusal of a run file's opening, if it is refused, where at most so many places are served
abbrev pub desk_refusal : ℕ → List ℕ → Option (ℕ × ℕ)
desk_refusal most file =
    cond (whole file && nat_le (place_count file) most) (first_some (roll_refusal (place_count file) (roll_bytes file)) (opening_refusal (budget_bytes file))) (Some (1, 0))
