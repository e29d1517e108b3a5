-- How far off a released number is, and how many draws move it far.
use Rattle.std.specs.Prelude.{◌≡◌, ℕ, ◌+◌, ◌-◌, ◌%◌, min, List, [], ◌∷◌, nat_lt}
use Rattle.roll.specs.Numbers.{one_if, total}
use Rattle.weights.specs.Counting.{sum_below}
use Rattle.weights.specs.Ring.{offset_of}
use Rattle.noise.specs.Dial.{Dial, ring, our_dial}
use Rattle.bulletin.specs.declared.tail.Tail.{Tail}

-- how many places of a ring of r places lie between the true count c and the number a, the shorter way round
unfoldable pub distance : ℕ → ℕ → ℕ → ℕ
distance r c a = let up = (a + (r - c % r)) % r in min up (r - up)

-- of the draws, how many move the number by more than k places, for the true count c
unfoldable pub draws_past : Dial → ℕ → ℕ → ℕ
draws_past d k c = sum_below (total d.weights) (λ u. one_if (nat_lt k (distance (ring d) c ((c + offset_of d.weights u) % ring d))))

-- an entry says how many draws of our dial move the number by more than its places, and they are so many whatever the true count
abbrev pub Counted : Tail → Type 0
Counted t = (c : ℕ) → draws_past our_dial t.places c ≡ t.draws

-- each entry of a table does
abbrev pub AllCounted : List Tail → Type 0
AllCounted [] = Unit {0}
AllCounted (t ∷ ts) = Counted t × AllCounted ts

-- an entry: more than so many places, by so many draws
abbrev pub tail : ℕ → ℕ → Tail
tail k n = record { places = k; draws = n }

-- the table
abbrev pub our_tails : List Tail
our_tails = tail 5 2882304023104 ∷ tail 10 944473558142 ∷ tail 20 101412309542 ∷ tail 40 1169462752 ∷ []
