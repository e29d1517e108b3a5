-- A ring whose weights rest from some distance on has three parts: the weights that fall, the places at rest, and the weights that rise again.
use Rattle.std.proofs.Common.{◌≡◌, ℕ, zero, suc, ◌+◌, ◌-◌, ◌<◌, ◌≤◌, min, [], ◌∷◌, ◌++◌, reverse, length, get_or, take, drop, sym, refl, ap, ◌∙◌, zero-add, add-one, arith, length-drop, length-take}
use Rattle.std.proofs.lemmas.List.{reverse-append, ext_get_or, get_or-take, get_or-drop}
use Rattle.std.proofs.lemmas.List.FromFn.{map-range_with_len_more, length-map-range_with_len, get_or-map-range_with_len}
use Rattle.weights.specs.Ring.{stretch, around}
use Rattle.weights.proofs.Offsets.{level, three_parts}

module _ (w : ℕ → ℕ) where
  -- n distances in a row are n
  pub length_stretch : (s n : ℕ) → length (stretch w s n) ≡ n
  unfolding stretch
  length_stretch s n = length-map-range_with_len w s n

  -- the weight at each of them
  pub get_or_stretch : (s n i : ℕ) → i < n → get_or (stretch w s n) i 0 ≡ w (s + i)
  unfolding stretch
  get_or_stretch s n i h = get_or-map-range_with_len w s n i (s + i) 0 h refl

  -- a part of them
  pub stretch_part : (n s m : ℕ) → s + m ≤ n → take m (drop s (stretch w 0 n)) ≡ stretch w s m
  stretch_part n s m h =
      let long : length (take m (drop s (stretch w 0 n))) ≡ m = simp (length-take, length-drop, length_stretch 0 n) (omega arith) in
      ext_get_or 0 _ _ (long ∙ sym (length_stretch s m)) (λ i lt. at i (omega arith) (omega arith))
    where
      -- entry by entry
      at : (i : ℕ) → i < m → s + i < n → get_or (take m (drop s (stretch w 0 n))) i 0 ≡ get_or (stretch w s m) i 0
      at i low inside =
          get_or-take m (drop s (stretch w 0 n)) i 0 low ∙ get_or-drop s (stretch w 0 n) i 0 ∙ get_or_stretch 0 n (s + i) inside ∙ ap w (zero-add (s + i))
          ∙ sym (get_or_stretch s m i low)

  -- the m places from s on, by their way back to place 0
  falling : (r s m k n : ℕ) → k ≡ m + n → r ≡ s + k → s + m ≤ n + 1 → around w r k ≡ stretch w s m ++ around w r n
  unfolding around stretch
  falling r s zero k n ek er h = ap (around w r) (omega arith)
  falling r s (suc m) zero n ek er h = absurd (omega arith)
  falling r s (suc m) (suc k) n ek er h =
      let here : min (r - suc k) (suc k) ≡ s = omega arith in
      ap (λ d. w d ∷ around w r k) here ∙ ap (λ l. w s ∷ l) (falling r (s + 1) m k n (omega arith) (omega arith) (omega arith))

  -- the last n places, by their way on to place 0
  rising : (r n : ℕ) → n + n ≤ r → around w r n ≡ reverse (stretch w 1 n)
  unfolding around stretch
  rising r zero h = refl
  rising r (suc n) h =
      let here : min (r - suc n) (suc n) ≡ n + 1 = omega arith in
      let whole : stretch w 1 (n + 1) ≡ stretch w 1 n ++ w (n + 1) ∷ [] = map-range_with_len_more w 1 n (n + 1) (omega arith) in
      ap (λ d. w d ∷ around w r n) here
      ∙ ap (λ l. w (n + 1) ∷ l) (rising r n (omega arith))
      ∙ sym (ap (λ k. reverse (stretch w 1 k)) (sym (add-one n)) ∙ ap reverse whole ∙ reverse-append (stretch w 1 n) (w (n + 1) ∷ []))

  -- the weights are v from distance n on
  module _ (n v : ℕ) (rests : (k : ℕ) → w (n + k) ≡ v) where
    -- m places at rest
    resting : (r m k j : ℕ) → k ≡ m + j → n ≤ j + 1 → n + k ≤ r → around w r k ≡ level m v ++ around w r j
    unfolding around level
    resting r zero k j ek hj hr = ap (around w r) (omega arith)
    resting r (suc m) zero j ek hj hr = absurd (omega arith)
    resting r (suc m) (suc k) j ek hj hr =
        let far : min (r - suc k) (suc k) ≡ n + (min (r - suc k) (suc k) - n) = omega arith in
        ap (λ x. x ∷ around w r k) (ap w far ∙ rests _) ∙ ap (λ l. v ∷ l) (resting r m k j (omega arith) hj (omega arith))

    -- the whole ring
    pub ring_parts : (r m k : ℕ) → n ≡ k + 1 → r ≡ n + m + k → around w r r ≡ three_parts (stretch w 0 n) m v (stretch w 1 k)
    ring_parts r m k en er =
        falling r 0 n r (m + k) (omega arith) (omega arith) (omega arith)
        ∙ ap (λ l. stretch w 0 n ++ l) (resting r m (m + k) k refl (omega arith) (omega arith) ∙ ap (λ l. level m v ++ l) (rising r k (omega arith)))
