-- The cell that a value falls in, and what one row more changes in the counts of a table's cells.
use Rattle.std.proofs.Common.{◌≡◌, ℕ, zero, suc, ◌+◌, ◌-◌, ◌<◌, ◌≤◌, Bool, true, false, cond, not, ◌&&◌, eqb, leb, ltb, List, [], ◌∷◌, ◌++◌, length, get_or, take, set, replicate, sym, refl, ap, ◌∙◌, add-zero, arith, ltb-false, le-ltb, lt-ltb}
use Rattle.std.specs.List.Sorted.{IsPartitionPoint, IsPartitionedBy}
use Rattle.std.proofs.lemmas.List.{take_at, take_all, take_more, length-take, get_or_append_left, set-append_left, replicate-append-replicate}
use Rattle.std.proofs.lemmas.List.Sorted.{IsPartitionedBy-leb}
use Rattle.std.proofs.lemmas.Bool.{leb-true, leb-false, and_parts, cond_both, not-true}
use Rattle.roll.specs.Predicates.{Predicate, below, both, negated, passes, counted, count}
use Rattle.roll.specs.Rows.{Row}
use Rattle.query.specs.Lines.{rises}
use Rattle.query.specs.Query.{cut, counts, cell}

-- the cell is the number of cuts from the first on that are not above the value
cell_at : (ks : List ℕ) (v i : ℕ) → i ≤ length ks → ((j : ℕ) → j < i → get_or ks j 0 ≤ v) → (i < length ks → v < get_or ks i 0) → cell ks v ≡ i
cell_at [] v zero le under over = refl
cell_at [] v (suc i) le under over = absurd (omega arith)
cell_at (k ∷ ks) v zero le under over = rw (lt-ltb v k (over (omega arith)))
cell_at (k ∷ ks) v (suc i) le under over =
    rw (le-ltb v k (under 0 (omega arith)))
    (ap suc (cell_at ks v i (omega arith) (λ j h. under (suc j) (omega arith)) (λ h. over (omega arith))))

-- of numbers that rise, none is below the least that the first may be
rises_low : (low : ℕ) (ks : List ℕ) → rises low ks ≡ true → (j d : ℕ) → j < length ks → low ≤ get_or ks j d
rises_low low [] e j d h = absurd (omega arith)
rises_low low (k ∷ ks) e zero d h =
    ltb-false k low (not-true (ltb k low) (and_parts (not (ltb k low)) (rises (k + 1) ks) e).0)
rises_low low (k ∷ ks) e (suc j) d h =
    let p = and_parts (not (ltb k low)) (rises (k + 1) ks) e in
    omega (arith, ltb-false k low (not-true (ltb k low) p.0), rises_low (k + 1) ks p.1 j d (omega arith))

-- and none is below those before it
rises_on : (low : ℕ) (ks : List ℕ) → rises low ks ≡ true → (i j d : ℕ) → i ≤ j → j < length ks → get_or ks i d ≤ get_or ks j d
rises_on low [] e i j d le h = absurd (omega arith)
rises_on low (k ∷ ks) e zero zero d le h = omega arith
rises_on low (k ∷ ks) e zero (suc j) d le h =
    omega (arith, rises_low (k + 1) ks (and_parts (not (ltb k low)) (rises (k + 1) ks) e).1 j d (omega arith))
rises_on low (k ∷ ks) e (suc i) zero d le h = absurd (omega arith)
rises_on low (k ∷ ks) e (suc i) (suc j) d le h =
    rises_on (k + 1) ks (and_parts (not (ltb k low)) (rises (k + 1) ks) e).1 i j d (omega arith) (omega arith)

-- a cut is not above a value up to some cut, and above it from there on
pub parted : (ks : List ℕ) (v : ℕ) → rises 0 ks ≡ true → IsPartitionedBy (λ k. leb k v) ks
parted ks v up = IsPartitionedBy-leb (λ k. k) ks v (rises_on 0 ks up)

-- and where it turns is the cell
pub cell_from_point : (ks : List ℕ) (v i : ℕ) → i ≤ length ks → IsPartitionPoint (λ k. leb k v ≡ true) (λ k. leb k v ≡ false) ks i → i ≡ cell ks v
cell_from_point ks v i le point =
    sym (cell_at ks v i le (λ j lt. leb-true _ _ (point.0 j 0 (omega arith) lt)) (λ lt. leb-false _ _ (point.1 i 0 (omega arith) lt)))

-- a table has one cell more than cuts
pub length_counts : (p : Predicate) (f : ℕ) (ks : List ℕ) (rs : List Row) → length (counts (cut p f ks) rs) ≡ suc (length ks)
unfolding cut counts
length_counts p f [] rs = refl
length_counts p f (k ∷ ks) rs = ap suc (length_counts (both p (negated (below f k))) f ks rs)

-- a count is at most the number of rows
count_le : (p : Predicate) (rs : List Row) → count p rs ≤ length rs
unfolding count
count_le p [] = omega arith
count_le p (r ∷ rs) =
    cond_both (counted p r) 1 0 (λ n. n + count p rs ≤ suc (length rs)) (λ e. omega (arith, count_le p rs))
    (λ e. omega (arith, count_le p rs))

-- so is each of several
get_or_counts_le : (ps : List Predicate) (rs : List Row) (i : ℕ) → get_or (counts ps rs) i 0 ≤ length rs
unfolding counts
get_or_counts_le [] rs i = omega arith
get_or_counts_le (p ∷ ps) rs zero = count_le p rs
get_or_counts_le (p ∷ ps) rs (suc i) = get_or_counts_le ps rs i

-- of no rows all counts are 0
counts_none : (p : Predicate) (f : ℕ) (ks : List ℕ) → counts (cut p f ks) [] ≡ replicate (suc (length ks)) 0
unfolding count cut counts
counts_none p f [] = refl
counts_none p f (k ∷ ks) = ap (λ l. 0 ∷ l) (counts_none (both p (negated (below f k))) f ks)

-- one row more
count_push : (p : Predicate) (rs : List Row) (r : Row) → count p (rs ++ r ∷ []) ≡ count p rs + cond (counted p r) 1 0
unfolding count
count_push p [] r = omega arith
count_push p (x ∷ rs) r = omega (arith, count_push p rs r)

-- one that is counted
hit : (p : Predicate) (rs : List Row) (r : Row) → counted p r ≡ true → count p (rs ++ r ∷ []) ≡ count p rs + 1
hit p rs r e = count_push p rs r ∙ ap (λ b. count p rs + cond b 1 0) e

-- one that is not
miss : (p : Predicate) (rs : List Row) (r : Row) → counted p r ≡ false → count p (rs ++ r ∷ []) ≡ count p rs
miss p rs r e = count_push p rs r ∙ ap (λ b. count p rs + cond b 1 0) e ∙ add-zero (count p rs)

-- two tests passed leave it to the third
and_true : (a b c : Bool) → (a && b) ≡ true → (a && (b && c)) ≡ c
and_true true true c e = refl
and_true true false c e = let z : ◌≡◌ {A = ℕ} 0 1 = cc in absurd (omega arith)
and_true false b c e = let z : ◌≡◌ {A = ℕ} 0 1 = cc in absurd (omega arith)

-- and failed they decide
and_false : (a b c : Bool) → (a && b) ≡ false → (a && (b && c)) ≡ false
and_false true true c e = let z : ◌≡◌ {A = ℕ} 0 1 = cc in absurd (omega arith)
and_false true false c e = refl
and_false false b c e = refl

-- a row that p counts is counted by both p and q if it passes q
both_true : (p q : Predicate) (r : Row) → counted p r ≡ true → counted (both p q) r ≡ passes q r
unfolding counted passes
both_true p q r e = and_true (eqb (get_or r 0 0) 1) (passes p r) (passes q r) e

-- a row that p does not count is not counted by both p and q
both_false : (p q : Predicate) (r : Row) → counted p r ≡ false → counted (both p q) r ≡ false
unfolding counted passes
both_false p q r e = and_false (eqb (get_or r 0 0) 1) (passes p r) (passes q r) e

-- a row that is not counted changes no cell
miss_all : (p : Predicate) (f : ℕ) (ks : List ℕ) (rs : List Row) (r : Row) → counted p r ≡ false → counts (cut p f ks) (rs ++ r ∷ []) ≡ counts (cut p f ks) rs
unfolding cut counts
miss_all p f [] rs r e = ap (λ n. n ∷ []) (miss p rs r e)
miss_all p f (k ∷ ks) rs r e =
    let first = miss (both p (below f k)) rs r (both_false p (below f k) r e) in
    let rest = miss_all (both p (negated (below f k))) f ks rs r (both_false p (negated (below f k)) r e) in
    cc

-- one more at place i
abbrev pub one_more : ℕ → List ℕ → List ℕ
one_more i xs = set xs i (get_or xs i 0 + 1)

-- a row that is counted adds one to its cell
hit_all : (p : Predicate) (f : ℕ) (ks : List ℕ) (rs : List Row) (r : Row) → counted p r ≡ true → counts (cut p f ks) (rs ++ r ∷ []) ≡ one_more (cell ks (get_or r f 0)) (counts (cut p f ks) rs)
unfolding cut counts passes
hit_all p f [] rs r e = ap (λ n. n ∷ []) (hit p rs r e)
hit_all p f (k ∷ ks) rs r e =
    let low = both p (below f k) in
    let high = both p (negated (below f k)) in
    cond_both (ltb (get_or r f 0) k) 0 (suc (cell ks (get_or r f 0))) (λ i. counts (low ∷ cut high f ks) (rs ++ r ∷ []) ≡ one_more i (counts (low ∷ cut high f ks) rs))
    (λ b.
    let first = hit low rs r (both_true p (below f k) r e ∙ b) in
    let rest = miss_all high f ks rs r (both_true p (negated (below f k)) r e ∙ ap not b) in
    cc)
    (λ b.
    let first = miss low rs r (both_true p (below f k) r e ∙ b) in
    let rest = hit_all high f ks rs r (both_true p (negated (below f k)) r e ∙ ap not b) in
    cc)

-- 64 numbers of which the first are the counts of a table's cells over the first i rows, and the others 0
module _ (p : Predicate) (f : ℕ) (ks : List ℕ) (few : length ks ≤ 63) (rows : List Row) where
  -- the counts of some rows, and zeros up to 64 numbers
  abbrev pub padded : List Row → List ℕ
  padded rs = counts (cut p f ks) rs ++ replicate (63 - length ks) 0

  -- they begin with zeros
  pub start : padded (take 0 rows) ≡ replicate 64 0
  start =
      let all : suc (length ks) + (63 - length ks) ≡ 64 = omega arith in
      ap (λ l. l ++ replicate (63 - length ks) 0) (counts_none p f ks)
      ∙ replicate-append-replicate (suc (length ks)) (63 - length ks) 0 ∙ ap (λ n. replicate n 0) all

  -- at the end the first numbers are the counts
  pub finish : (xs : List ℕ) (i : ℕ) → length rows ≤ i → xs ≡ padded (take i rows) → take (length ks + 1) xs ≡ counts (cut p f ks) rows
  finish xs i all e =
      ap (take (length ks + 1)) e
      ∙ take_at (counts (cut p f ks) (take i rows)) (replicate (63 - length ks) 0) (length ks + 1) (omega (arith, length_counts p f ks (take i rows)))
      ∙ ap (counts (cut p f ks)) (take_all i rows all)

  -- no number is above that of the rows so far
  pub few_so_far : (xs : List ℕ) (i j : ℕ) → j ≤ length ks → xs ≡ padded (take i rows) → i < length rows → get_or xs j 0 ≤ i
  few_so_far xs i j here e inside =
      omega (arith, ap (λ l. get_or l j 0) e, get_or_append_left (counts (cut p f ks) (take i rows)) (replicate (63 - length ks) 0) 0 j (omega (arith, length_counts p f ks (take i rows))), get_or_counts_le (cut p f ks) (take i rows) j, length-take i rows)

  -- a turn whose row is not counted
  pub turn_miss : (xs : List ℕ) (i : ℕ) → i < length rows → xs ≡ padded (take i rows) → counted p (get_or rows i []) ≡ false → xs ≡ padded (take (i + 1) rows)
  turn_miss xs i inside e out =
      e ∙ ap (λ l. l ++ replicate (63 - length ks) 0)
      (sym (miss_all p f ks (take i rows) (get_or rows i []) out) ∙ ap (counts (cut p f ks)) (sym (take_more rows i [] inside)))

  -- a turn whose row is counted
  pub turn_hit : (xs : List ℕ) (i j : ℕ) → i < length rows → xs ≡ padded (take i rows) → counted p (get_or rows i []) ≡ true → j ≤ length ks → j ≡ cell ks (get_or (get_or rows i []) f 0) → one_more j xs ≡ padded (take (i + 1) rows)
  turn_hit xs i j inside e here le is =
      let sofar : List ℕ = counts (cut p f ks) (take i rows) in
      let zeros : List ℕ = replicate (63 - length ks) 0 in
      let within : j < length sofar = omega (arith, length_counts p f ks (take i rows)) in
      ap (one_more j) e ∙ ap (λ n. set (sofar ++ zeros) j (n + 1)) (get_or_append_left sofar zeros 0 j within)
      ∙ set-append_left sofar zeros j (get_or sofar j 0 + 1) within
      ∙ ap (λ l. l ++ zeros)
      (ap (λ n. one_more n sofar) is ∙ sym (hit_all p f ks (take i rows) (get_or rows i []) here) ∙ ap (counts (cut p f ks)) (sym (take_more rows i [] inside)))
