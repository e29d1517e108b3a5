-- What is promised of how far off a released number may be.
use Rattle.std.specs.Prelude.{◌≡◌, ℕ, ◌+◌, ◌%◌, ◌<◌, ◌==◌, slice_index}
use Rattle.roll.specs.Numbers.{one_if, total}
use Rattle.weights.specs.Counting.{sum_below}
use Rattle.weights.specs.Ring.{offset_of}
use Rattle.noise.specs.Dial.{Dial, ring}
use Rattle.bulletin.specs.Distance.{AllCounted, our_tails}

-- of the draws just as many move the number by j places round the ring as place j weighs, whatever the true count
abbrev pub HonestError : Dial → Type 0
HonestError d =
    (c j : ℕ) → j < ring d →
    sum_below (total d.weights) (λ u. one_if ((c + offset_of d.weights u) % ring d == (c + j) % ring d)) ≡ slice_index d.weights j

-- of the 9,895,604,911,578 draws of our dial, how many move the number by more than 5, 10, 20 and 40 places, whatever the true count:
-- the four entries of the table
abbrev pub Tails : Type 0
Tails = AllCounted our_tails
