-- How far the draws move a number. The ring is never written out: its halves are summed by the weights' distances.
use Rattle.std.proofs.Common.{◌≡◌, ℕ, suc, ◌+◌, ◌-◌, ◌*◌, ◌%◌, ◌<◌, min, ltb, List, length, get_or, ap, ◌∙◌, ap₂, arith, lit<}
use Rattle.std.proofs.lemmas.Bool.{lt-ltb}
use Rattle.roll.specs.Numbers.{one_if, total}
use Rattle.weights.specs.Counting.{sum_below}
use Rattle.weights.specs.Ring.{offset_of, decay, our_weights}
use Rattle.weights.proofs.Sums.{sum_same}
use Rattle.weights.proofs.Draws.{offset_below, sum_by_offset}
use Rattle.weights.proofs.Ring.{halves_rest}
use Rattle.weights.proofs.Ours.{our_places, our_place, our_rests}
use Rattle.noise.specs.Dial.{Dial, our_dial}
use Rattle.noise.proofs.Draws.{turn_back, draws_by_weight}
use Rattle.bulletin.specs.Distance.{distance, draws_past}
use Rattle.bulletin.specs.Statements.{HonestError, Tails}

-- whatever the count, a move by j places has as many draws as place j weighs
pub honest_error : (d : Dial) → HonestError d
honest_error d = draws_by_weight d.weights

-- a count that is moved by j places is as far off as place j is from place 0
distance_moved : (r c j : ℕ) → j < r → distance r c ((c + j) % r) ≡ min j (r - j)
unfolding distance
distance_moved r c j h = rw (turn_back c r j h)

-- the draws by their offsets
past_by_weight :
    (ws : List ℕ) (k c : ℕ) →
    sum_below (total ws) (λ u. one_if (ltb k (distance (length ws) c ((c + offset_of ws u) % length ws))))
    ≡ sum_below (length ws) (λ j. get_or ws j 0 * one_if (ltb k (min j (length ws - j))))
past_by_weight ws k c =
    sum_same (total ws) _ _ (λ u l. ap (λ m. one_if (ltb k m)) (distance_moved (length ws) c (offset_of ws u) (offset_below ws u l)))
    ∙ sum_by_offset ws (λ j. one_if (ltb k (min j (length ws - j))))

-- the weight at a distance above k, and nothing at the others
far : ℕ → ℕ → ℕ
far k i = decay 4 5 i * one_if (ltb k i)

-- where the weights rest, so do these
far_rests : (k : ℕ) → k < 120 → (n : ℕ) → far k (120 + n) ≡ 4
unfolding far
far_rests k h n = ap₂ (λ w b. w * one_if b) (our_rests n) (lt-ltb k (120 + n) (omega arith))

-- the draws of our dial, by the first 120 distances out and home, and the rest by their number
past :
    (k : ℕ) → k < 120 → (c : ℕ) →
    draws_past our_dial k c ≡ sum_below 120 (far k) + 32648 * 4 + (sum_below 120 (λ i. far k (suc i)) + 32648 * 4)
unfolding draws_past our_dial far
past k h c =
    past_by_weight our_weights k c
    ∙ ap (λ r. sum_below r (λ j. get_or our_weights j 0 * one_if (ltb k (min j (r - j))))) our_places
    ∙ sum_same 65536 _ (λ j. far k (min j (65536 - j))) (λ j l. weighs j l)
    ∙ halves_rest (far k) 120 32648 4 (far_rests k h)
  where
    -- each place by its distance
    weighs : (j : ℕ) → j < 65536 → get_or our_weights j 0 * one_if (ltb k (min j (65536 - j))) ≡ far k (min j (65536 - j))
    weighs j l = ap (λ w. w * one_if (ltb k (min j (65536 - j)))) (our_place j l)

-- the four numbers, worked out
pub tails : Tails
unfolding far decay sum_below
tails = (past 5 (lit< tt), (past 10 (lit< tt), (past 20 (lit< tt), (past 40 (lit< tt), tt))))
