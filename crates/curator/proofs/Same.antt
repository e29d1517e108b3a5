-- The tests of equality on outcomes and on transcripts.
use Rattle.std.proofs.Common.{◌≡◌, ℕ, true, ◌&&◌, eqb, List, [], ◌∷◌, refl, eq-eqb, eqb-true}
use borrow.Author.Tests.{clash}
use Rattle.std.proofs.lemmas.Bool.{and_parts}
use Rattle.roll.specs.Numbers.{same}
use Rattle.curator.specs.Curator.{Outcome, answered, edited, refused, same_outcome, same_transcript}
use Rattle.curator.specs.Machine.{Equal}

-- a list is the same as itself
same_self : (xs : List ℕ) → same xs xs ≡ true
unfolding same
same_self [] = refl
same_self (x ∷ xs) = rw (eq-eqb x x refl) (same_self xs)

-- lists that are the same are equal
same_sound : (xs ys : List ℕ) → same xs ys ≡ true → xs ≡ ys
unfolding same
same_sound [] [] e = refl
same_sound [] (y ∷ ys) e = absurd (clash e)
same_sound (x ∷ xs) [] e = absurd (clash e)
same_sound (x ∷ xs) (y ∷ ys) e =
    let (p, q) = and_parts (eqb x y) (same xs ys) e in
    let i : x ≡ y = eqb-true x y p in
    let j : xs ≡ ys = same_sound xs ys q in
    cc

-- an outcome is the same as itself
outcome_self : (o : Outcome) → same_outcome o o ≡ true
unfolding same_outcome
outcome_self (answered a xs u) = rw (eq-eqb a a refl, eq-eqb u u refl) (same_self xs)
outcome_self edited = refl
outcome_self (refused n k) = rw (eq-eqb n n refl, eq-eqb k k refl)

-- outcomes that are the same are equal
outcome_sound : (o p : Outcome) → same_outcome o p ≡ true → o ≡ p
unfolding same_outcome
outcome_sound (answered a xs u) (answered b ys v) e =
    let (p, rest) = and_parts (eqb a b) (eqb u v && same xs ys) e in
    let (q, r) = and_parts (eqb u v) (same xs ys) rest in
    let i : a ≡ b = eqb-true a b p in
    let j : u ≡ v = eqb-true u v q in
    let k : xs ≡ ys = same_sound xs ys r in
    cc
outcome_sound (answered a xs u) edited e = absurd (clash e)
outcome_sound (answered a xs u) (refused n k) e = absurd (clash e)
outcome_sound edited (answered b ys v) e = absurd (clash e)
outcome_sound edited edited e = refl
outcome_sound edited (refused n k) e = absurd (clash e)
outcome_sound (refused n k) (answered b ys v) e = absurd (clash e)
outcome_sound (refused n k) edited e = absurd (clash e)
outcome_sound (refused n k) (refused m l) e =
    let (p, q) = and_parts (eqb n m) (eqb k l) e in
    let i : n ≡ m = eqb-true n m p in
    let j : k ≡ l = eqb-true k l q in
    cc

-- so the test tells outcomes apart
pub outcome_equal : Equal same_outcome
outcome_equal = record { self = outcome_self; sound = outcome_sound }

-- transcripts that are the same are equal
pub transcript_sound : (os ps : List Outcome) → same_transcript os ps ≡ true → os ≡ ps
unfolding same_transcript
transcript_sound [] [] e = refl
transcript_sound [] (p ∷ ps) e = absurd (clash e)
transcript_sound (o ∷ os) [] e = absurd (clash e)
transcript_sound (o ∷ os) (p ∷ ps) e =
    let (g, h) = and_parts (same_outcome o p) (same_transcript os ps) e in
    let i : o ≡ p = outcome_sound o p g in
    let j : os ≡ ps = transcript_sound os ps h in
    cc
