-- A table's rule from each entry to the next: one test over the whole table gives it at each entry.
use Rattle.std.proofs.Common.{◌≡◌, ℕ, zero, suc, ◌+◌, ◌-◌, ◌*◌, ◌/◌, ◌<◌, Bool, true, List, [], ◌∷◌, length, get_or, sym, refl, ap, ◌∙◌, le_of_suc-le-suc, not-suc-le-zero, add-one}
use Rattle.std.proofs.lemmas.Bool.{and_parts, eqb-true, leb-true}
use Rattle.weights.specs.Ring.{decay, stretch}
use Rattle.weights.specs.Table.{links_from, links, rounds_up, within, Least, Decaying}
use Rattle.weights.proofs.Decay.{up_enough, up_least}

-- the test passes wherever an entry has a next one
link : (f : ℕ → ℕ → Bool) (x : ℕ) (ys : List ℕ) → links_from f x ys ≡ true → (d : ℕ) → d < length ys → f (get_or (x ∷ ys) d 0) (get_or ys d 0) ≡ true
link f x [] t d h = absurd (not-suc-le-zero h)
link f x (y ∷ ys) t zero h = (and_parts (f x y) (links_from f y ys) t).0
link f x (y ∷ ys) t (suc d) h = link f y ys (and_parts (f x y) (links_from f y ys) t).1 d (le_of_suc-le-suc h)

module _ (a b : ℕ) where
  -- a table that passes the tests has its rule at each entry
  pub rule_holds :
      (ws : List ℕ) → 0 < b → get_or ws 0 0 ≡ 1099511627776 →
      links (rounds_up a b) ws ≡ true → links (within a b) ws ≡ true → Decaying a b ws
  rule_holds [] some start rule near = record { first = start; next = λ d h. absurd (not-suc-le-zero h); near = λ d h. absurd (not-suc-le-zero h) }
  rule_holds (x ∷ ys) some start rule near =
      record {
        first = start;
        next = λ d h. least (get_or (x ∷ ys) d 0) (get_or ys d 0) (eqb-true _ _ (link (rounds_up a b) x ys rule d (le_of_suc-le-suc h)));
        near = λ d h.
            let t = and_parts _ _ (link (within a b) x ys near d (le_of_suc-le-suc h)) in
            (leb-true _ _ t.0, leb-true _ _ t.1);
      }
    where
      -- what is rounded up is least
      least : (p q : ℕ) → q ≡ (a * p + (b - 1)) / b → Least a b p q
      least p q e = rw e (up_enough a b p some, λ z h. up_least a b p z some h)

  -- from an entry that is right on, all are
  right_from : (i x : ℕ) (ys : List ℕ) → x ≡ decay a b i → links_from (rounds_up a b) x ys ≡ true → x ∷ ys ≡ stretch (decay a b) i (suc (length ys))
  unfolding decay stretch
  right_from i x [] e t = ap (λ z. z ∷ []) e
  right_from i x (y ∷ ys) e t =
      let parts = and_parts (rounds_up a b x y) (links_from (rounds_up a b) y ys) t in
      let next : y ≡ decay a b (i + 1) = eqb-true _ _ parts.0 ∙ ap (λ z. (a * z + (b - 1)) / b) e ∙ sym (ap (decay a b) (add-one i)) in
      ap (λ z. z ∷ y ∷ ys) e ∙ ap (λ l. decay a b i ∷ l) (right_from (i + 1) y ys next parts.1)

-- such a table has the decaying weights, from distance 0 on
pub table_is : (a b : ℕ) (ws : List ℕ) → get_or ws 0 0 ≡ 1099511627776 → links (rounds_up a b) ws ≡ true → ws ≡ stretch (decay a b) 0 (length ws)
unfolding decay stretch
table_is a b [] start rule = refl
table_is a b (x ∷ ys) start rule = right_from a b 0 x ys start rule
