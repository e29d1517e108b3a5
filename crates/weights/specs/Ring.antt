-- The ring of decaying weights, and the place of the ring that a draw falls into.
use Rattle.std.specs.Prelude.{ℕ, zero, suc, ◌+◌, ◌-◌, ◌*◌, ◌/◌, min, cond, List, [], ◌∷◌, map, Some, None, Ok, Err, Option, Result, nat_lt}
use Rattle.std.specs.List.{range_with_len}
use Rattle.roll.specs.Numbers.{total}

-- the offset of the draw u: the place that it falls into when the weights are laid end to end
unfoldable pub offset_of : List ℕ → ℕ → ℕ
offset_of [] u = 0
offset_of (w ∷ ws) u = cond (nat_lt u w) 0 (suc (offset_of ws (u - w)))

-- the offset of a number below the sum of the weights; of any other, what is left of it past them
abbrev pub walked : List ℕ → ℕ → Result ℕ ℕ
walked ws u = cond (nat_lt u (total ws)) (Ok (offset_of ws u)) (Err (u - total ws))

-- the weight at a distance: 2^40 at 0, then each the least whole number not below a/b of the one before
unfoldable pub decay : ℕ → ℕ → ℕ → ℕ
decay a b zero = 1099511627776
decay a b (suc n) = (a * decay a b n + (b - 1)) / b

-- the weights at n distances in a row, from the distance s on
unfoldable pub stretch : (ℕ → ℕ) → ℕ → ℕ → List ℕ
stretch w s n = map w (range_with_len s n)

-- the last n places of a ring of r places, where a place weighs w at its distance from place 0 by the shorter way round
unfoldable pub around : (ℕ → ℕ) → ℕ → ℕ → List ℕ
around w r zero = []
around w r (suc n) = w (min (r - suc n) (suc n)) ∷ around w r n

-- the weights of the ring of 65,536 places that decay by 4/5
unfoldable pub our_weights : List ℕ
our_weights = around (decay 4 5) 65536 65536

-- the offset of a draw on our ring, or none for a number that is no draw
abbrev pub our_offset : ℕ → Option ℕ
our_offset u = cond (nat_lt u (total our_weights)) (Some (offset_of our_weights u)) None
