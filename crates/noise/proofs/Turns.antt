-- What the code does with one word, and with the words of one cell, gives the number released.
use Rattle.std.proofs.Common.{◌≡◌, ℕ, ◌+◌, ◌%◌, ◌<◌, ◌≤◌, Bool, true, false, cond, List, length, Some, None, sym, refl, ap, ◌∙◌, mod-lt, arith, lit<, nat_le}
use Rattle.std.proofs.lemmas.Bool.{cond-true, lt-ltb, le-leb}
use Rattle.std.proofs.lemmas.Bool.Decides.{nat_tests}
use Rattle.std.proofs.lemmas.Option.{none-some, same_Some}
use Rattle.roll.specs.Numbers.{total}
use Rattle.weights.specs.Ring.{offset_of, our_weights, our_offset}
use Rattle.weights.proofs.Ours.{our_places, our_sum}
use Rattle.noise.specs.Words.{first_words}
use Rattle.noise.specs.Dial.{bound, our_dial}
use Rattle.noise.specs.Release.{released, our_draw, our_number, our_release}
use Rattle.noise.proofs.Ours.{dial_bound}

-- a word that draws: its draw is one, so it has an offset, and that makes the number
module _ (c x u : ℕ) (drew : Some u ≡ our_draw x) where
  -- the word is below the bound
  below : (x < 18446743461844455030) × (u ≡ x % 9895604911578)
  below = (grind (arith, nat_tests), grind (arith, nat_tests))

  -- the draw is below the sum of the weights
  is_draw : u < total our_weights
  is_draw = let (low, is) = below in let small : x % 9895604911578 < 9895604911578 = mod-lt x (lit< tt) in omega (arith, our_sum)

  -- so its offset is there
  pub has_offset : None ≡ our_offset u → ⊥
  has_offset e = let low = is_draw in grind (arith, nat_tests)

  -- and makes the number
  pub numbered : (o n : ℕ) → Some o ≡ our_offset u → n ≡ (c + o) % 65536 → Some n ≡ our_number c x
  unfolding our_dial
  numbered o n e is =
      let (low, drawn) = below in
      let inside = is_draw in
      let here : o ≡ offset_of our_weights u = grind (arith, nat_tests) in
      ap Some
      (is
      ∙ ap (λ p. (c + p) % 65536) here
      ∙ ap (λ v. (c + offset_of our_weights v) % 65536) (drawn ∙ ap (λ t. x % t) (sym our_sum))
      ∙ ap (λ r. (c + offset_of our_weights (x % total our_weights)) % r) (sym our_places))
      ∙ sym (cond-true _ _ _ (lt-ltb x (bound our_dial) (omega (arith, dial_bound))))

-- a word that is rejected makes none
pub unnumbered : (c x : ℕ) → None ≡ our_draw x → None ≡ our_number c x
unnumbered c x e = let high = dial_bound in grind (arith, nat_tests)

-- where a test gives a number and not none, it picks that number over another
pub picked : (b : Bool) (x y a : ℕ) → Some a ≡ cond b (Some x) None → cond b x y ≡ a
picked true x y a e = cc
picked false x y a e = let z : ◌≡◌ {A = ℕ} 0 1 = cc in absurd (omega arith)

-- where it gives none, it picks the other
pub passed : (b : Bool) (x y : ℕ) → None ≡ cond b (Some x) None → cond b x y ≡ y
passed true x y e = let z : ◌≡◌ {A = ℕ} 0 1 = cc in absurd (omega arith)
passed false x y e = refl

-- the number released where there are four words
pub from_four : (c : ℕ) (bytes : List ℕ) (a : ℕ) → 32 ≤ length bytes → a ≡ released our_dial c (first_words 4 bytes) → Some a ≡ our_release c bytes
from_four c bytes a h e = ap Some e ∙ sym (cond-true _ _ _ (le-leb 32 (length bytes) h))

-- what is chosen, where it is something, is what there is to choose
chosen : (b : Bool) (x a : ℕ) → Some a ≡ cond b (Some x) None → a ≡ x
chosen true x a e = same_Some a x e
chosen false x a e = absurd (none-some a (sym e))

-- what is released for a cell is the number released from its first four words
pub as_four : (c : ℕ) (bytes : List ℕ) (a : ℕ) → Some a ≡ our_release c bytes → a ≡ released our_dial c (first_words 4 bytes)
as_four c bytes a e = chosen (nat_le 32 (length bytes)) _ a e
