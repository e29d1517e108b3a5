-- Weights that decay by a/b, for any a < b.
use Rattle.std.proofs.Common.{◌≡◌, ℕ, zero, suc, ◌+◌, ◌-◌, ◌*◌, ◌/◌, ◌<◌, ◌≤◌, ap, ◌∙◌, ⊎_elim, le_of_suc-le-suc, add-zero, le_of_lt, add-suc, mul-le-mul_right, suc-mul, mul_comm, div-lt_iff_lt-mul, mul-le-mul, arith}
use native.Mathlib.Nat.{lt-div-mul-add}
use Rattle.std.proofs.lemmas.Bool.{cases_order}
use Rattle.weights.specs.Ring.{decay}
use Rattle.weights.specs.Statements.{DecayNear}

-- a/b of x rounded up is no less than a/b of x
pub up_enough : (a b x : ℕ) → 0 < b → a * x ≤ b * ((a * x + (b - 1)) / b)
up_enough a b x some = omega (arith, lt-div-mul-add {a = a * x + (b - 1)} some, mul_comm ((a * x + (b - 1)) / b) b)

-- and no whole number below it is
pub up_least : (a b x z : ℕ) → 0 < b → a * x ≤ b * z → (a * x + (b - 1)) / b ≤ z
up_least a b x z some h = le_of_suc-le-suc ((div-lt_iff_lt-mul some).1 (omega (arith, suc-mul z b, mul_comm b z)))

module _ (a b : ℕ) (growing : a < b) where
  -- a weight is no less than a/b of the one before
  decay_least : (n : ℕ) → a * decay a b n ≤ b * decay a b (suc n)
  unfolding decay
  decay_least n = up_enough a b (decay a b n) (omega arith)

  -- and never above it
  decay_falls : (n : ℕ) → decay a b (suc n) ≤ decay a b n
  unfolding decay
  decay_falls n = up_least a b (decay a b n) (decay a b n) (omega arith) (mul-le-mul_right (decay a b n) (le_of_lt growing))

-- weights at most one step apart are within the factor b / a
pub decay_near : DecayNear
decay_near a b growing p q pq qp =
    ⊎_elim
    (λ (e : p ≡ q). rw e (mul-le-mul_right (decay a b q) (le_of_lt growing)))
    (⊎_elim
    (λ (lt : p < q). let e : q ≡ suc p = omega arith in rw e (decay_least a b growing p))
    (λ (gt : q < p). let e : p ≡ suc q = omega arith in rw e (mul-le-mul (le_of_lt growing) (decay_falls a b growing q))))
    (cases_order p q)

-- a weight that rounding up gives back stays for ever
pub decay_rests : (a b n v : ℕ) → decay a b n ≡ v → (a * v + (b - 1)) / b ≡ v → (k : ℕ) → decay a b (n + k) ≡ v
unfolding decay
decay_rests a b n v start again zero = ap (decay a b) (add-zero n) ∙ start
decay_rests a b n v start again (suc k) =
    ap (decay a b) (add-suc n k) ∙ ap (λ w. (a * w + (b - 1)) / b) (decay_rests a b n v start again k) ∙ again
