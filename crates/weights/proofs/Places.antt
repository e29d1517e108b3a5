-- The place of a draw on our ring, from walks along the falling and the rising weights.
use Rattle.std.proofs.Common.{◌≡◌, ℕ, ◌+◌, ◌-◌, ◌*◌, ◌/◌, ◌<◌, ◌≤◌, List, length, take, drop, Some, None, Ok, Err, sym, refl, ap, ◌∙◌, arith, lit<, lit≤}
use Rattle.std.proofs.lemmas.Bool.{cond-true, cond-false, lt-ltb, le-ltb}
use Rattle.roll.specs.Numbers.{total}
use Rattle.weights.specs.Ring.{offset_of, walked, decay, stretch, our_weights, our_offset}
use Rattle.weights.proofs.Draws.{offset_below}
use Rattle.weights.proofs.Offsets.{three_parts, offset_front, offset_middle, offset_back}
use Rattle.weights.proofs.Steps.{walked_ok, walked_err}
use Rattle.weights.proofs.Sides.{length_stretch, stretch_part, ring_parts}
use Rattle.weights.proofs.Ours.{our_rests, our_sum}

-- the weights of the places 0 to 119
abbrev pub falling_weights : List ℕ
falling_weights = stretch (decay 4 5) 0 120

-- the weights of the places 65,535 down to 65,417
abbrev pub rising_weights : List ℕ
rising_weights = stretch (decay 4 5) 1 119

-- the first are a part of the table
pub falling_part : (table : List ℕ) → table ≡ stretch (decay 4 5) 0 121 → take 120 table ≡ falling_weights
falling_part table e = ap (take 120) e ∙ stretch_part (decay 4 5) 121 0 120 (lit≤ tt)

-- and so are the last
pub rising_part : (table : List ℕ) → table ≡ stretch (decay 4 5) 0 121 → take 119 (drop 1 table) ≡ rising_weights
rising_part table e = ap (λ t. take 119 (drop 1 t)) e ∙ stretch_part (decay 4 5) 121 1 119 (lit≤ tt)

-- the first are 120
length_falling : length falling_weights ≡ 120
length_falling = length_stretch (decay 4 5) 0 120

-- the last are 119
length_rising : length rising_weights ≡ 119
length_rising = length_stretch (decay 4 5) 1 119

-- the ring in three parts: 120 weights that fall, 65,297 places of weight 4, and 119 weights that rise
our_parts : our_weights ≡ three_parts falling_weights 65297 4 rising_weights
unfolding our_weights
our_parts = ring_parts (decay 4 5) 120 4 our_rests 65536 65297 119 refl refl

-- the sum of the weights that fall
falling_sum : total falling_weights ≡ 5497558139083
unfolding total stretch decay
falling_sum = refl

-- the sum of the weights that rise
rising_sum : total rising_weights ≡ 4398046511307
unfolding total stretch decay
rising_sum = refl

-- a number that is no draw has no offset
pub no_draw : (u : ℕ) → 9895604911578 ≤ u → None ≡ our_offset u
no_draw u h = sym (cond-false _ _ _ (le-ltb u (total our_weights) (omega (arith, our_sum))))

-- what walks along the falling and the rising weights say of the offset
module _ (u : ℕ) (draw : u < 9895604911578) where
  -- a draw has its offset
  placed : (p : ℕ) → p ≡ offset_of our_weights u → Some p ≡ our_offset u
  placed p e = ap Some e ∙ sym (cond-true _ _ _ (lt-ltb u (total our_weights) (omega (arith, our_sum))))

  -- it falls among the first 120 places
  pub falling_place : (p : ℕ) → Ok p ≡ walked falling_weights u → (p < 120) × (Some p ≡ our_offset u)
  falling_place p e =
      let (inside, here) = walked_ok falling_weights u p e in (
        omega (arith, offset_below falling_weights u inside, length_falling),
        placed p (here ∙ sym (ap (λ ws. offset_of ws u) our_parts ∙ offset_front _ 65297 4 rising_weights u inside)),
      )

  -- it lies past them
  module _ (rest : ℕ) (past : Err rest ≡ walked falling_weights u) where
    -- by what is left of it
    past_falling : (5497558139083 ≤ u) × (rest ≡ u - 5497558139083)
    past_falling =
        let (far, left) = walked_err falling_weights u rest past in
        (omega (arith, falling_sum), omega (arith, falling_sum))

    -- it falls into a place of weight 4
    pub level_place : (p : ℕ) → rest < 261188 → p ≡ 120 + rest / 4 → Some p ≡ our_offset u
    level_place p small e =
        let (far, left) = past_falling in
        let same : rest ≡ u - total falling_weights = omega (arith, falling_sum) in
        placed p (
        e
        ∙ ap (λ n. n + rest / 4) (sym length_falling)
        ∙ ap (λ n. length falling_weights + n / 4) same
        ∙ sym
        (ap (λ ws. offset_of ws u) our_parts
        ∙ offset_middle _ 65297 4 rising_weights u (lit< tt) (omega (arith, falling_sum)) (omega (arith, falling_sum)))
        )

    -- it falls among the last 119 places, where the place and the draw are counted from the other end
    module _ (far : 261188 ≤ rest) (v : ℕ) where
      -- by the steps from the end
      pub rising_place :
          (steps : ℕ) → Ok steps ≡ walked rising_weights v → v ≡ 9895604911577 - u →
          (steps < 119) × ((p : ℕ) → p ≡ 65535 - steps → Some p ≡ our_offset u)
      rising_place steps e back =
          let (some, left) = past_falling in
          let (inside, here) = walked_ok rising_weights v steps e in
          let sums : total falling_weights + 65297 * 4 + total rising_weights ≡ 9895604911578 = omega (arith, falling_sum, rising_sum) in
          let whole = offset_back falling_weights 65297 4 rising_weights u (omega (arith, falling_sum)) (omega arith) in
          let low = offset_below rising_weights v inside in
          let same : offset_of rising_weights (total falling_weights + 65297 * 4 + total rising_weights - 1 - u) ≡ offset_of rising_weights v = ap (offset_of rising_weights) (omega arith) in (
            omega (arith, length_rising),
            λ p is. placed p (omega (arith, ap (λ ws. offset_of ws u) our_parts, length_falling, length_rising)),
          )

      -- it never lies past them
      pub never_past : (left : ℕ) → Err left ≡ walked rising_weights v → v ≡ 9895604911577 - u → ⊥
      never_past left e back =
          let (some, is) = past_falling in
          let (over, gone) = walked_err rising_weights v left e in
          omega (arith, rising_sum)
