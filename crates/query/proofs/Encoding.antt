-- Reading and encoding a query are inverse to each other.
use Rattle.std.proofs.Common.{◌≡◌, ℕ, ◌≤◌, ◌||◌, eqb, ltb, List, [], ◌∷◌, ◌++◌, length, take, drop, sym, refl, ap, ◌∙◌, subst, arith, ltb-false, le-ltb, ne_eqb, eqb-true}
use borrow.Author.Tests.{eqb-false}
use Rattle.std.proofs.lemmas.List.{take_at, drop_at, length-take-le, take-append-drop}
use Rattle.std.proofs.lemmas.Bool.{cond_both, or_parts}
use Rattle.roll.specs.Predicates.{Predicate, encode}
use Rattle.roll.specs.Reading.{Reading, got, refused, read_predicate, first}
use Rattle.roll.proofs.Laws.{reads_encoded, encodes_read}
use Rattle.query.specs.Lines.{Asking, asked, malformed, about, rising, count_line, table_line, encode_query, Sound, WellFormed, QueryReadsEncoded, QueryEncodesRead}
use Rattle.query.specs.Query.{Query, count_of, table_of}
use Rattle.query.proofs.Rising.{risen, rising_past}

-- a query is read again from the line that encodes it
pub query_reads_encoded : QueryReadsEncoded
query_reads_encoded a (count_of p) w =
    ap (about a count_of) (reads_encoded (length (encode_query a (count_of p))) p w.0 w.1)
query_reads_encoded a (table_of p f ks) w =
    let end = length (encode_query a (table_of p f ks)) in
    let small : f ≤ 15 = omega (arith, w.0) in
    let some : length ks ≡ 0 → ⊥ = λ e. omega (arith, w.1) in
    rw (le-ltb 15 f small, le-ltb 63 (length ks) w.2, ne_eqb (length ks) 0 some)
    (rising_past end 0 ks (encode p) _ w.3
    ∙ rw (take_at ks (encode p) (length ks) refl, drop_at ks (encode p) (length ks) refl)
    (ap (about a (λ q. table_of q f ks)) (reads_encoded end p w.4.0 w.4.1)))

-- the predicate of a query that was read, and its bytes
record About (a b : ℕ) (x : Predicate → Query) (q : Query) (bs : List ℕ) : Type 0 where
  predicate : Predicate
  analyst : a ≡ b
  query : x predicate ≡ q
  bytes : bs ≡ encode predicate
  sound : Sound predicate

-- who asks, and about which predicates
about_asked : (a b : ℕ) (x : Predicate → Query) (r : Reading) (q : Query) → about a x r ≡ asked b q → (ps : List Predicate) × (r ≡ got ps) × (a ≡ b) × (x (first ps) ≡ q)
about_asked a b x (got ps) q e = (ps, refl, cc, cc)
about_asked a b x (refused n k) q e = let z : ◌≡◌ {A = ℕ} 0 1 = cc in absurd (omega arith)

-- a query that was read is about one predicate, which has exactly the bytes to the end
about_one : (end a b : ℕ) (x : Predicate → Query) (bs : List ℕ) (q : Query) → about a x (read_predicate end bs) ≡ asked b q → About a b x q bs
about_one end a b x bs q e =
    let r = about_asked a b x (read_predicate end bs) q e in
    let p = encodes_read end bs r.0 r.1 in
    record { predicate = p.0; analyst = r.2; query = ap (λ l. x (first l)) (sym p.1) ∙ r.3; bytes = p.2; sound = (p.3, p.4) }

-- what is wanted of a line that was read
abbrev Exact : List ℕ → ℕ → Query → Type 0
Exact line a q = (line ≡ encode_query a q) × WellFormed q

-- a count
exact_count : (end b c s : ℕ) (bs : List ℕ) (a : ℕ) (q : Query) → b ≡ 2 → s ≡ 1 → count_line end c bs ≡ asked a q → Exact (b ∷ c ∷ s ∷ bs) a q
exact_count end b c s bs a q kind form e =
    let p = about_one end c a count_of bs q e in
    let analyst = p.analyst in
    let bytes = p.bytes in
    subst (Exact (b ∷ c ∷ s ∷ bs) a) p.query (cc, p.sound)

-- a table whose field, number of cuts and cuts are right
exact_cuts : (end b c s f n : ℕ) (bs : List ℕ) (a : ℕ) (q : Query) → b ≡ 2 → s ≡ 2 → f ≤ 15 → (n ≡ 0 → ⊥) → n ≤ 63 → rising end 0 n bs (about c (λ p. table_of p f (take n bs)) (read_predicate end (drop n bs))) ≡ asked a q → Exact (b ∷ c ∷ s ∷ f ∷ n ∷ bs) a q
exact_cuts end b c s f n bs a q kind form small some few e =
    let r = risen end 0 n bs _ a q e in
    let p = about_one end c a (λ t. table_of t f (take n bs)) (drop n bs) q r.rest in
    let analyst = p.analyst in
    let many : length (take n bs) ≡ n = length-take-le n bs r.long in
    let bytes : bs ≡ take n bs ++ encode p.predicate = sym (take-append-drop n bs) ∙ ap (λ l. take n bs ++ l) p.bytes in
    subst (Exact (b ∷ c ∷ s ∷ f ∷ n ∷ bs) a) p.query
    (cc, (omega arith, omega arith, omega arith, r.up, p.sound))

-- a table
exact_table : (end b c s : ℕ) (bs : List ℕ) (a : ℕ) (q : Query) → b ≡ 2 → s ≡ 2 → table_line end c bs ≡ asked a q → Exact (b ∷ c ∷ s ∷ bs) a q
exact_table end b c s [] a q kind form e = let z : ◌≡◌ {A = ℕ} 0 1 = cc in absurd (omega arith)
exact_table end b c s (f ∷ []) a q kind form e =
    cond_both (ltb 15 f) (malformed 11 3) (malformed 9 end) (λ v. v ≡ asked a q → Exact (b ∷ c ∷ s ∷ f ∷ []) a q)
    (λ _ d. let z : ◌≡◌ {A = ℕ} 0 1 = cc in absurd (omega arith)) (λ _ d. let z : ◌≡◌ {A = ℕ} 0 1 = cc in absurd (omega arith)) e
exact_table end b c s (f ∷ n ∷ bs) a q kind form e =
    let P : Asking → Type 0 = λ v. v ≡ asked a q → Exact (b ∷ c ∷ s ∷ f ∷ n ∷ bs) a q in
    cond_both (ltb 15 f) _ _ P (λ _ d. let z : ◌≡◌ {A = ℕ} 0 1 = cc in absurd (omega arith))
    (λ small. cond_both (eqb n 0 || ltb 63 n) _ _ P (λ _ d. let z : ◌≡◌ {A = ℕ} 0 1 = cc in absurd (omega arith))
    (λ ok d. let o = or_parts (eqb n 0) (ltb 63 n) ok in exact_cuts end b c s f n bs a q kind form (ltb-false 15 f small) (eqb-false n 0 o.0) (ltb-false 63 n o.1) d))
    e

-- what is read is exactly the line that encodes it
pub query_encodes_read : QueryEncodesRead
query_encodes_read [] a q kind e = let z : ◌≡◌ {A = ℕ} 0 1 = cc in absurd (omega arith)
query_encodes_read (b ∷ []) a q kind e = let z : ◌≡◌ {A = ℕ} 0 1 = cc in absurd (omega arith)
query_encodes_read (b ∷ c ∷ []) a q kind e = let z : ◌≡◌ {A = ℕ} 0 1 = cc in absurd (omega arith)
query_encodes_read (b ∷ c ∷ s ∷ bs) a q kind e =
    let end = length (b ∷ c ∷ s ∷ bs) in
    let P : Asking → Type 0 = λ v. v ≡ asked a q → Exact (b ∷ c ∷ s ∷ bs) a q in
    cond_both (eqb s 1) _ _ P (λ one d. exact_count end b c s bs a q kind (eqb-true s 1 one) d)
    (λ _. cond_both (eqb s 2) _ _ P (λ two d. exact_table end b c s bs a q kind (eqb-true s 2 two) d)
    (λ _ d. let z : ◌≡◌ {A = ℕ} 0 1 = cc in absurd (omega arith)))
    e
