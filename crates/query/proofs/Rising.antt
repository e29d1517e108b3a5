-- What one cut changes for the reader of cuts, and what all of them say.
use Rattle.std.proofs.Common.{◌≡◌, ℕ, zero, suc, ◌+◌, ◌-◌, ◌≤◌, true, not, ◌&&◌, ltb, List, [], ◌∷◌, ◌++◌, length, take, refl, ap, ◌∙◌, arith}
use Rattle.std.proofs.lemmas.Bool.{and_parts, cond_both, not-true}
use Rattle.roll.specs.Predicates.{below}
use Rattle.query.specs.Lines.{Asking, asked, malformed, rising, rises}
use Rattle.query.specs.Query.{Query, count_of}

-- where reading goes past the cuts, they are all there and rise, and the reading is of what follows
pub record Risen (low n : ℕ) (bs : List ℕ) (x y : Asking) : Type 0 where
  pub long : n ≤ length bs
  pub up : rises low (take n bs) ≡ true
  pub rest : x ≡ y

-- a reading that asks a query went past the cuts
pub risen : (end low n : ℕ) (bs : List ℕ) (x : Asking) (a : ℕ) (q : Query) → rising end low n bs x ≡ asked a q → Risen low n bs x (asked a q)
risen end low zero bs x a q e = record { long = omega arith; up = refl; rest = e }
risen end low (suc n) [] x a q e = let z : ◌≡◌ {A = ℕ} 0 1 = cc in absurd (omega arith)
risen end low (suc n) (k ∷ bs) x a q e =
    cond_both (ltb k low) (malformed 13 (end - length (k ∷ bs))) (rising end (k + 1) n bs x) (λ v. v ≡ asked a q → Risen low (suc n) (k ∷ bs) x (asked a q))
    (λ _ d. let z : ◌≡◌ {A = ℕ} 0 1 = cc in absurd (omega arith))
    (λ b d.
    let r = risen end (k + 1) n bs x a q d in
    record { long = omega (arith, r.long); up = ap (λ v. not v && rises (k + 1) (take n bs)) b ∙ r.up; rest = r.rest })
    e

-- cuts that whatever follows is read after are all there and rise
pub all_risen : (end low n : ℕ) (bs : List ℕ) → ((x : Asking) → rising end low n bs x ≡ x) → (n ≤ length bs) × (rises low (take n bs) ≡ true)
all_risen end low n bs e =
    let q : Query = count_of (below 0 0) in
    let r = risen end low n bs (asked 0 q) 0 q (e (asked 0 q)) in
    (r.long, r.up)

-- cuts that rise are read past
pub rising_past : (end low : ℕ) (ks rest : List ℕ) (x : Asking) → rises low ks ≡ true → rising end low (length ks) (ks ++ rest) x ≡ x
rising_past end low [] rest x e = refl
rising_past end low (k ∷ ks) rest x e =
    let p = and_parts (not (ltb k low)) (rises (k + 1) ks) e in
    rw (not-true (ltb k low) p.0) (rising_past end (k + 1) ks rest x p.1)
