-- What the code's row of released numbers means.
use Rattle.std.specs.Prelude.{◌≡◌, ℕ, ◌<◌, ◌≤◌, List, length, map, Option, MatchOption}
use Rattle.roll.specs.Lists.{listed}
use Rattle.noise.specs.declared.released.Released.{Released}
use Rattle.noise.specs.Dial.{our_dial}
use Rattle.noise.specs.Release.{all_released, released_number}
use Rattle.noise.specs.Words.{words_of}

-- the numbers that it holds, cell by cell
abbrev pub numbers_of : Released → List ℕ
numbers_of r = map released_number (listed r.numbers)

-- the answer for some counts and a page is the row of numbers released, or none for more than 64 counts
abbrev pub ReleasedAll : List ℕ → List ℕ → Option Released → Type 0
ReleasedAll counts page r =
    MatchOption r (64 < length counts) (λ a. (length counts ≤ 64) × (numbers_of a ≡ all_released our_dial counts (words_of page)))
