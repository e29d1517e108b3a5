-- A list cut into runs of one length, and what a write to one run does.
use Rattle.std.proofs.Common.{◌≡◌, ℕ, zero, suc, ◌+◌, ◌*◌, ◌<◌, ◌≤◌, List, ◌∷◌, ◌++◌, length, take, drop, set, refl, ap, ◌∙◌, le_trans, mul-le-mul_left, mul-zero, mul-suc, arith, length-append, length-drop, length-take}
use Rattle.std.proofs.lemmas.List.{take_at, take-append-le, take-take, drop_at, drop-append-le, drop-drop, drop-take}
use Rattle.std.specs.Simd.{first_chunks}

-- so many runs are asked for, so many there are
pub length_chunked : {X : Type 0} (n k : ℕ) (xs : List X) → length (first_chunks n k xs) ≡ k
length_chunked n zero xs = refl
length_chunked n (suc k) xs = ap suc (length_chunked n k (drop n xs))

-- the list with ys in the place of its run p
abbrev pub with_run : {X : Type 0} → ℕ → ℕ → List X → List X → List X
with_run n p ys xs = take (n * p) xs ++ (ys ++ drop n (drop (n * p) xs))

module _ {X : Type 0} (n : ℕ) (ys : List X) (size : length ys ≡ n) where
  -- a run in the place of the first one
  first_run : (k : ℕ) (xs : List X) → first_chunks n (suc k) (ys ++ drop n xs) ≡ ys ∷ first_chunks n k (drop n xs)
  first_run k xs = rw (take_at ys (drop n xs) n size, drop_at ys (drop n xs) n size)

  -- a run further on leaves the first one
  keeps_first : (p : ℕ) (xs : List X) → n * suc p ≤ length xs → take n (with_run n (suc p) ys xs) ≡ take n xs
  keeps_first p xs h =
      let more : n ≤ n * suc p = omega (arith, mul-suc n p) in
      let long : n ≤ length (take (n * suc p) xs) = omega (arith, length-take (n * suc p) xs) in
      take-append-le n (take (n * suc p) xs) _ long ∙ take-take n (n * suc p) xs more

  -- and is one run less far in what follows it
  moves_up : (p : ℕ) (xs : List X) → n * suc p ≤ length xs → drop n (with_run n (suc p) ys xs) ≡ with_run n p ys (drop n xs)
  moves_up p xs h =
      let step : n * suc p ≡ n + n * p = omega (arith, mul-suc n p) in
      let long : n ≤ length (take (n + n * p) xs) = omega (arith, length-take (n + n * p) xs) in
      rw step (drop-append-le n (take (n + n * p) xs) _ long ∙ rw (drop-take n (n * p) xs, drop-drop (n * p) n xs))

  -- a write to run p changes that run alone
  pub chunked_with_run : (k p : ℕ) (xs : List X) → p < k → n * k ≤ length xs → first_chunks n k (with_run n p ys xs) ≡ set (first_chunks n k xs) p ys
  chunked_with_run zero p xs h long = absurd (omega arith)
  chunked_with_run (suc k) zero xs h long = rw mul-zero (first_run k xs)
  chunked_with_run (suc k) (suc p) xs h long =
      let room : n * suc p ≤ length xs = le_trans (mul-le-mul_left n (omega arith)) long in
      let rest : n * k ≤ length (drop n xs) = omega (arith, length-drop n xs, mul-suc n k) in
      rw (keeps_first p xs room, moves_up p xs room) (ap (λ l. take n xs ∷ l) (chunked_with_run k p (drop n xs) (omega arith) rest))

  -- and keeps the length
  pub length_with_run : (p : ℕ) (xs : List X) → n * p + n ≤ length xs → length (with_run n p ys xs) ≡ length xs
  length_with_run p xs h =
      omega (arith, length-append (take (n * p) xs) (ys ++ drop n (drop (n * p) xs)), length-append ys (drop n (drop (n * p) xs)), length-take (n * p) xs, length-drop n (drop (n * p) xs), length-drop (n * p) xs)
