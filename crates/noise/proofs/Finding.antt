-- What a search for the first word that is not rejected finds.
use Rattle.std.proofs.Common.{◌≡◌, ℕ, zero, suc, ◌+◌, ◌<◌, List, [], ◌∷◌, get_or, length, map, take, drop, Some, None, sym, refl, ap, ◌∙◌, arith, Bor}
use Rattle.std.specs.Prelude.{Option, MatchOption, option_map}
use Rattle.std.specs.Fn.{Mut, Called}
use Rattle.std.specs.Iterator.Runs.{Run, ItemsMapTo, AllItemsGive, IsFirstToGive}
use Rattle.std.specs.Option.{IfSome, IsSomeAnd}
use Rattle.std.specs.Bool.{IsTrue}
use Rattle.std.specs.Simd.{first_chunks}
use Rattle.noise.specs.Words.{word_of, first_words}
use Rattle.noise.specs.Dial.{our_dial}
use Rattle.noise.specs.Release.{released, released_number, our_number}
use Rattle.noise.proofs.Ours.{dial_ring}
use Rattle.noise.proofs.Turns.{picked, passed}

-- what such a search finds: none where each word is rejected, else the number of the first that is not
abbrev pub Found : ℕ → Option ℕ → List (List ℕ) → Type 0
Found c r ws =
    MatchOption r ((k : ℕ) → k < length ws → our_number c (word_of (get_or ws k [])) ≡ None)
    (λ n. (i : ℕ) × (i < length ws) × (our_number c (word_of (get_or ws i [])) ≡ Some n) × ((k : ℕ) → k < i → our_number c (word_of (get_or ws k [])) ≡ None))

-- that is the number released
pub found_number : (c : ℕ) (r : Option ℕ) (ws : List (List ℕ)) → Found c r ws → released_number r ≡ released our_dial c (map word_of ws)
unfolding released
found_number c None [] d = sym dial_ring
found_number c (Some n) [] (i, low, made, before) = absurd (omega arith)
found_number c None (w ∷ ws) d = found_number c None ws (λ k low. d (suc k) (omega arith)) ∙ sym (passed _ _ _ (sym (d 0 (omega arith))))
found_number c (Some n) (w ∷ ws) (zero, low, made, before) = sym (picked _ _ _ _ (sym made))
found_number c (Some n) (w ∷ ws) (suc i, low, made, before) =
    found_number c (Some n) ws (i, omega arith, made, λ k lt. before (suc k) (omega arith)) ∙ sym (passed _ _ _ (sym (before 0 (omega arith))))

-- the words of bytes cut into eights
pub words_chunks : (n k : ℕ) (bytes : List ℕ) → k ≡ n → map word_of (first_chunks 8 k bytes) ≡ first_words n bytes
unfolding first_words
words_chunks n zero bytes e = rw (← e)
words_chunks n (suc k) bytes e = rw (← e) (ap (λ l. word_of (take 8 bytes) ∷ l) (words_chunks k k (drop 8 bytes) refl))

-- a run over the words, whose calls give each word's number
module _ {S F : Type 0} {steps : S → Option (Bor (List ℕ)) → S → Type 0} (g : Mut F (Bor (List ℕ) × Unit {0}) (Option ℕ)) (f : F) (c : ℕ)
    (gives : (x : Bor (List ℕ)) (a : Option ℕ) (q : F) → Called g f (x, tt) a q → (q ≡ f) × (a ≡ our_number c (word_of x.now)))
    (p : Run steps) (ws : List (List ℕ)) (reads : ItemsMapTo p (λ y. y.now) ws) where
  -- what was called at one item is the number of the word there
  at : (o : Option (Bor (List ℕ))) (w : List ℕ) (a : Option ℕ) → option_map (λ y. y.now) o ≡ Some w → IfSome o (λ x. Called g f (x, tt) a f) → our_number c (word_of w) ≡ a
  at None w a e h = absurd (absent w e)
    where
      absent : (w : List ℕ) → None ≡ Some w → ⊥
      absent w e = cc
  at (Some x) w a e h = let word : x.now ≡ w = cc in ap (λ b. our_number c (word_of b)) (sym word) ∙ sym (gives x a f h).1

  -- so too where it is known that there is an item
  there : (o : Option (Bor (List ℕ))) (w : List ℕ) (a : Option ℕ) → option_map (λ y. y.now) o ≡ Some w → IsSomeAnd o (λ x. Called g f (x, tt) a f) → our_number c (word_of w) ≡ a
  there None w a e h = absurd h
  there (Some x) w a e h = at (Some x) w a e h

  -- no call changes the closure
  keeps : (x : Bor (List ℕ) × Unit {0}) (a : Option ℕ) (q : F) → Called g f x a q → q ≡ f
  keeps x a q k = (gives x.0 a q k).0

  -- so the search found what it is to find
  pub found :
      (r : Option ℕ) →
      MatchOption r (IsTrue p.whole × AllItemsGive p g f None) (λ y. (i : ℕ) × (i < p.len) × (p.len ≡ i + 1) × IsFirstToGive p g f (Some y) None i) →
      Found c r ws
  found None (whole, gave) = λ k low. at (p.at k) _ None (reads.2 k [] (omega (arith, reads.1 whole))) (gave keeps k)
  found (Some n) (i, low, last, first) = (
    i,
    omega (arith, reads.0),
    there (p.at i) _ (Some n) (reads.2 i [] low) (first keeps).0,
    λ k lt. there (p.at k) _ None (reads.2 k [] (omega arith)) ((first keeps).1 k lt),
  )
