-- What is promised of the ring of weights and of the draws.
use Rattle.std.specs.Prelude.{◌≡◌, ℕ, ◌+◌, ◌*◌, ◌/◌, ◌%◌, ◌^◌, ◌<◌, ◌≤◌, List, [], ◌∷◌, map, length, ◌==◌, slice_index}
use Rattle.roll.specs.Numbers.{one_if, total}
use Rattle.weights.specs.Counting.{sum_below}
use Rattle.weights.specs.Ring.{offset_of, decay, our_weights}

-- the draws fall by the weights: just as many have the offset j as place j weighs
abbrev pub Falls : Type 0
Falls = (ws : List ℕ) (j : ℕ) → j < length ws → sum_below (total ws) (λ u. one_if (offset_of ws u == j)) ≡ slice_index ws j

-- places of a ring that are neighbours have weights a and b with low a ≤ high b and low b ≤ high a
abbrev pub Near : ℕ → ℕ → List ℕ → Type 0
Near low high ws =
    (j : ℕ) → j < length ws →
    (low * slice_index ws j ≤ high * slice_index ws ((j + 1) % length ws)) × (low * slice_index ws ((j + 1) % length ws) ≤ high * slice_index ws j)

-- the neighbours' rule of our ring
abbrev pub Neighbours : Type 0
Neighbours = Near 4 5 our_weights

-- the rule behind it, for every decay a/b below 1: weights at most one step apart are within the factor b / a
abbrev pub DecayNear : Type 0
DecayNear = (a b : ℕ) → a < b → (p q : ℕ) → p ≤ q + 1 → q ≤ p + 1 → a * decay a b p ≤ b * decay a b q

-- the numbers of our ring: its places, the weight at distance 120, where the weights rest, the sum of all weights,
-- the bound at which words below 2^64 are rejected, and that it is 1,864,135 times the sum
pub record OurNumbers : Type 0 where
  pub places : length our_weights ≡ 65536
  pub at_120 : decay 4 5 120 ≡ 4
  pub rests : (n : ℕ) → decay 4 5 (120 + n) ≡ 4
  pub sum : total our_weights ≡ 9895604911578
  pub limit : 2 ^ 64 / total our_weights * total our_weights ≡ 18446743461844455030
  pub multiple : 1864135 * total our_weights ≡ 18446743461844455030

-- where the draws at the edges of its first places fall
abbrev pub OurDraws : Type 0
OurDraws = map (offset_of our_weights) (0 ∷ 1099511627775 ∷ 1099511627776 ∷ 1979120929996 ∷ 1979120929997 ∷ []) ≡ 0 ∷ 0 ∷ 1 ∷ 1 ∷ 2 ∷ []
