-- Where a draw falls in one row of weights after another, in equal weights, and in a row turned round.
use Rattle.std.proofs.Common.{◌≡◌, ℕ, zero, suc, ◌+◌, ◌-◌, ◌*◌, ◌/◌, ◌<◌, ◌≤◌, cond, ltb, List, [], ◌∷◌, ◌++◌, reverse, length, replicate, sym, refl, ap, ◌∙◌, ⊎_elim, suc-mul, zero-mul, add-one, arith}
use native.Mathlib.Nat.{div-eq_of_lt, div-eq-sub-div}
use lib.ListN.{length-reverse, length-replicate}
use Rattle.std.proofs.lemmas.List.{reverse-append}
use Rattle.std.proofs.lemmas.Bool.{cond-true, cond-false, lt-ltb, le-ltb, cases_lt}
use Rattle.std.proofs.lemmas.Bool.Decides.{nat_tests}
use Rattle.roll.specs.Numbers.{total}
use Rattle.weights.specs.Ring.{offset_of}

-- the sum of one row after another
total_append : (xs ys : List ℕ) → total (xs ++ ys) ≡ total xs + total ys
unfolding total
total_append [] ys = omega arith
total_append (x ∷ xs) ys = omega (arith, total_append xs ys)

-- turned round, the sum is the same
total_reverse : (xs : List ℕ) → total (reverse xs) ≡ total xs
unfolding total
total_reverse [] = refl
total_reverse (x ∷ xs) = ap total (reverse-append (x ∷ []) xs) ∙ total_append (reverse xs) (x ∷ []) ∙ omega (arith, total_reverse xs)

-- n places of the weight v
unfoldable pub level : ℕ → ℕ → List ℕ
level n v = replicate n v

-- they are n
length_level : (n v : ℕ) → length (level n v) ≡ n
unfolding level
length_level n v = length-replicate n v

-- and their sum
total_level : (n v : ℕ) → total (level n v) ≡ n * v
unfolding total level
total_level zero v = omega (arith, zero-mul v)
total_level (suc n) v = omega (arith, total_level n v, suc-mul n v)

-- one row after another: a draw falls into the first, or what is left of it into the second
offset_append : (xs ys : List ℕ) (u : ℕ) → offset_of (xs ++ ys) u ≡ cond (ltb u (total xs)) (offset_of xs u) (length xs + offset_of ys (u - total xs))
unfolding total offset_of
offset_append [] ys u = grind (arith, nat_tests)
offset_append (x ∷ xs) ys u = let rest = offset_append xs ys (u - x) in grind (arith, nat_tests)

-- equal weights: the quotient
offset_level : (n v u : ℕ) → 0 < v → u < n * v → offset_of (level n v) u ≡ u / v
unfolding offset_of level
offset_level zero v u some h = absurd (omega (arith, zero-mul v))
offset_level (suc n) v u some h =
    ⊎_elim
    (λ (l : u < v). cond-true _ _ _ (lt-ltb u v l) ∙ sym (div-eq_of_lt l))
    (λ (l : v ≤ u).
    cond-false _ _ _ (le-ltb u v l)
    ∙ ap suc (offset_level n v (u - v) some (omega (arith, suc-mul n v)))
    ∙ sym (div-eq-sub-div some l ∙ add-one ((u - v) / v)))
    (cases_lt u v)

-- the same places counted from the other end
offset_reverse : (ws : List ℕ) (u : ℕ) → u < total ws → offset_of (reverse ws) u + suc (offset_of ws (total ws - 1 - u)) ≡ length ws
unfolding total offset_of
offset_reverse [] u h = absurd (omega arith)
offset_reverse (w ∷ ws) u h =
    let rest = offset_reverse ws u in
    let split = ap (λ l. offset_of l u) (reverse-append (w ∷ []) ws) ∙ offset_append (reverse ws) (w ∷ []) u in
    let same = total_reverse ws in
    let long = length-reverse ws in
    grind (arith, nat_tests)

-- a row, then m equal weights, then a row turned round
abbrev pub three_parts : List ℕ → ℕ → ℕ → List ℕ → List ℕ
three_parts xs m v ys = xs ++ (level m v ++ reverse ys)

-- where a draw falls in each of the three parts
module _ (xs : List ℕ) (m v : ℕ) (ys : List ℕ) (u : ℕ) where
  -- in the first row
  pub offset_front : u < total xs → offset_of (three_parts xs m v ys) u ≡ offset_of xs u
  offset_front h = offset_append xs _ u ∙ cond-true _ _ _ (lt-ltb u (total xs) h)

  -- past the first row
  offset_past :
      total xs ≤ u →
      offset_of (three_parts xs m v ys) u
      ≡ length xs + cond (ltb (u - total xs) (m * v)) (offset_of (level m v) (u - total xs)) (m + offset_of (reverse ys) (u - total xs - m * v))
  offset_past h =
      offset_append xs _ u
      ∙ cond-false _ _ _ (le-ltb u (total xs) h)
      ∙ ap (λ n. length xs + n) (offset_append (level m v) (reverse ys) (u - total xs) ∙ rw (total_level m v, length_level m v))

  -- among the equal weights
  pub offset_middle : 0 < v → total xs ≤ u → u - total xs < m * v → offset_of (three_parts xs m v ys) u ≡ length xs + (u - total xs) / v
  offset_middle some h lt = offset_past h ∙ ap (λ n. length xs + n) (cond-true _ _ _ (lt-ltb _ _ lt) ∙ offset_level m v _ some lt)

  -- in the row turned round: the draw and the place are counted from the other end
  pub offset_back :
      total xs + m * v ≤ u → u < total xs + m * v + total ys →
      offset_of (three_parts xs m v ys) u + suc (offset_of ys (total xs + m * v + total ys - 1 - u)) ≡ length xs + m + length ys
  offset_back h lt =
      let k : ℕ = u - total xs - m * v in
      let back = offset_reverse ys k (omega arith) in
      let same : offset_of ys (total ys - 1 - k) ≡ offset_of ys (total xs + m * v + total ys - 1 - u) = ap (offset_of ys) (omega arith) in
      let here = offset_past (omega arith) ∙ ap (λ n. length xs + n) (cond-false _ _ _ (le-ltb (u - total xs) (m * v) (omega arith))) in
      omega arith
