-- The ring of 65,536 places that decays by 4/5. It is never written out: all goes by the laws of rings of any size.
use Rattle.std.proofs.Common.{◌≡◌, ℕ, suc, ◌+◌, ◌-◌, ◌*◌, ◌/◌, ◌<◌, min, ◌∷◌, length, get_or, refl, ap, ◌∙◌, lit<}
use Rattle.roll.specs.Numbers.{total}
use Rattle.weights.specs.Counting.{sum_below}
use Rattle.weights.specs.Ring.{offset_of, decay, around, our_weights}
use Rattle.weights.specs.Statements.{Neighbours, OurNumbers, OurDraws}
use Rattle.weights.proofs.Decay.{decay_near, decay_rests}
use Rattle.weights.proofs.Ring.{around_first, length_around, place_weight, total_around, halves_rest, ring_near}

-- the neighbours' rule
pub neighbours : Neighbours
unfolding our_weights
neighbours = ring_near (decay 4 5) 4 5 65536 (decay_near 4 5 (lit< tt))

-- the ring has 65,536 places
pub our_places : length our_weights ≡ 65536
unfolding our_weights
our_places = length_around (decay 4 5) 65536 65536

-- each weighs by its distance from place 0
pub our_place : (j : ℕ) → j < 65536 → get_or our_weights j 0 ≡ decay 4 5 (min j (65536 - j))
unfolding our_weights
our_place j h = place_weight (decay 4 5) 65536 j h

-- the weight at distance 120, worked out
our_at_120 : decay 4 5 120 ≡ 4
unfolding decay
our_at_120 = refl

-- from there on all are 4
pub our_rests : (n : ℕ) → decay 4 5 (120 + n) ≡ 4
our_rests = decay_rests 4 5 120 4 our_at_120 refl

-- worked out: the first 120 weights out and home, and the rest by their number
our_halves : sum_below 120 (decay 4 5) + 32648 * 4 + (sum_below 120 (λ k. decay 4 5 (suc k)) + 32648 * 4) ≡ 9895604911578
unfolding decay sum_below
our_halves = refl

-- the sum of all weights
pub our_sum : total our_weights ≡ 9895604911578
unfolding our_weights
our_sum = total_around (decay 4 5) 65536 ∙ halves_rest (decay 4 5) 120 32648 4 our_rests ∙ our_halves

-- the numbers of the ring
pub our_numbers : OurNumbers
our_numbers =
    record {
      places = our_places;
      at_120 = our_at_120;
      rests = our_rests;
      sum = our_sum;
      limit = ap (λ n. 18446744073709551616 / n * n) our_sum;
      multiple = ap (λ n. 1864135 * n) our_sum;
    }

-- the first three places of the ring, by their weights
our_front : our_weights ≡ 1099511627776 ∷ 879609302221 ∷ 703687441777 ∷ around (decay 4 5) 65536 65533
unfolding our_weights decay
our_front =
    around_first (decay 4 5) 65536 65535
    ∙ ap (λ r. 1099511627776 ∷ r) (around_first (decay 4 5) 65536 65534 ∙ ap (λ r. 879609302221 ∷ r) (around_first (decay 4 5) 65536 65533))

-- the draws fall within the first three places
pub our_draws : OurDraws
unfolding offset_of
our_draws = rw our_front
