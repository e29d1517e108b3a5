-- Reading and encoding a predicate are inverse to each other.
use Rattle.std.proofs.Common.{◌≡◌, ℕ, zero, suc, ◌+◌, ◌-◌, ◌≤◌, true, eqb, ltb, List, [], ◌∷◌, ◌++◌, length, sym, refl, ap, ◌∙◌, subst, append_assoc, append-nil, arith, ltb-false, le-ltb, eqb-true}
use Rattle.std.proofs.lemmas.Bool.{cond_both}
use Rattle.roll.specs.Predicates.{Predicate, below, both, negated, encode, tokens, Fields}
use Rattle.roll.specs.Reading.{Reading, got, refused, push, join, negate, finish, compare_with, past, parse, read_predicate, first_read, is_got, spells, decoded, ReadsEncoded, EncodesRead}

-- two predicates that were read, made one
join_push : (p q : Predicate) (r : Reading) → join (push p (push q r)) ≡ push (both p q) r
join_push p q (got ps) = refl
join_push p q (refused n k) = refl

-- a predicate that was read, negated
negate_push : (p : Predicate) (r : Reading) → negate (push p r) ≡ push (negated p) r
negate_push p (got ps) = refl
negate_push p (refused n k) = refl

-- the bytes of a predicate are read as that predicate, and then the rest
pub reads : (end : ℕ) (p : Predicate) (left due : ℕ) (rest : List ℕ) → Fields p → parse end (tokens p + left) (suc due) (encode p ++ rest) ≡ push p (parse end left due rest)
reads end (below f k) left due rest h =
    let one : 1 + left ≡ suc left = omega arith in
    let small : f ≤ 15 = omega arith in
    rw (one, le-ltb 15 f small)
reads end (both p q) left due rest h =
    let more : suc (tokens p + tokens q) + left ≡ suc (tokens p + (tokens q + left)) = omega arith in
    rw (more, append_assoc (encode p) (encode q) rest, reads end p (tokens q + left) (suc due) (encode q ++ rest) h.0, reads end q left due rest h.1)
    (join_push p q (parse end left due rest))
reads end (negated p) left due rest h =
    let more : suc (tokens p) + left ≡ suc (tokens p + left) = omega arith in
    rw (more, reads end p left due rest h) (negate_push p (parse end left due rest))

-- a predicate is read again from its bytes
pub reads_encoded : ReadsEncoded
unfolding read_predicate
reads_encoded end p h few =
    let all : 64 ≡ tokens p + (64 - tokens p) = omega arith in
    ap (λ bs. parse end 64 1 bs) (sym (append-nil (encode p))) ∙ ap (λ n. parse end n 1 (encode p ++ [])) all
    ∙ reads end p (64 - tokens p) 0 [] h

-- the bytes of several predicates
abbrev encodes : List Predicate → List ℕ
encodes [] = []
encodes (p ∷ ps) = encode p ++ encodes ps

-- their tokens
abbrev all_tokens : List Predicate → ℕ
all_tokens [] = 0
all_tokens (p ∷ ps) = tokens p + all_tokens ps

-- their fields are a row's
abbrev AllFields : List Predicate → Type 0
AllFields [] = Unit {0}
AllFields (p ∷ ps) = Fields p × AllFields ps

-- as many predicates as were due, of no more tokens than were left, with exactly these bytes
record Spelled (left due : ℕ) (bs : List ℕ) (ps : List Predicate) : Type 0 where
  bytes : bs ≡ encodes ps
  many : length ps ≡ due
  few : all_tokens ps ≤ left
  fields : AllFields ps

-- the same of a reading, where it is not refused
abbrev Good : ℕ → ℕ → List ℕ → Reading → Type 0
Good left due bs (got ps) = Spelled left due bs ps
Good left due bs (refused n k) = Unit {0}

-- none is due
good_finish : (end left : ℕ) (bs : List ℕ) → Good left 0 bs (finish end bs)
good_finish end left [] = record { bytes = refl; many = refl; few = omega arith; fields = tt }
good_finish end left (b ∷ bs) = tt

-- a comparison
good_push : (left due f k : ℕ) (bs : List ℕ) (r : Reading) → f ≤ 15 → Good left due bs r → Good (suc left) (suc due) (1 ∷ f ∷ k ∷ bs) (push (below f k) r)
good_push left due f k bs (got ps) small g =
    record { bytes = ap (λ l. 1 ∷ f ∷ k ∷ l) g.bytes; many = ap suc g.many; few = omega (arith, g.few); fields = (omega arith, g.fields) }
good_push left due f k bs (refused n p) small g = tt

-- a comparison with its checks
good_compare : (end left due : ℕ) (bs : List ℕ) (r : Reading) → Good left due (past bs) r → Good (suc left) (suc due) (1 ∷ bs) (compare_with end bs r)
good_compare end left due [] r g = tt
good_compare end left due (f ∷ []) r g = cond_both (ltb 15 f) _ _ (Good (suc left) (suc due) (1 ∷ f ∷ [])) (λ e. tt) (λ e. tt)
good_compare end left due (f ∷ k ∷ bs) r g =
    cond_both (ltb 15 f) _ _ (Good (suc left) (suc due) (1 ∷ f ∷ k ∷ bs)) (λ e. tt)
    (λ e. good_push left due f k bs r (ltb-false 15 f e) g)

-- both of two
good_join : (left due : ℕ) (bs : List ℕ) (r : Reading) → Good left (suc (suc due)) bs r → Good (suc left) (suc due) (2 ∷ bs) (join r)
good_join left due bs (got []) g = absurd (omega (arith, g.many))
good_join left due bs (got (p ∷ [])) g = absurd (omega (arith, g.many))
good_join left due bs (got (p ∷ q ∷ ps)) g =
    record { bytes = ap (λ l. 2 ∷ l) (g.bytes ∙ sym (append_assoc (encode p) (encode q) (encodes ps))); many = omega (arith, g.many); few = omega (arith, g.few); fields = ((g.fields.0, g.fields.1.0), g.fields.1.1) }
good_join left due bs (refused n k) g = tt

-- not one
good_negate : (left due : ℕ) (bs : List ℕ) (r : Reading) → Good left (suc due) bs r → Good (suc left) (suc due) (3 ∷ bs) (negate r)
good_negate left due bs (got []) g = absurd (omega (arith, g.many))
good_negate left due bs (got (p ∷ ps)) g =
    record { bytes = ap (λ l. 3 ∷ l) g.bytes; many = g.many; few = omega (arith, g.few); fields = g.fields }
good_negate left due bs (refused n k) g = tt

-- what holds at a byte's value holds at the byte
at_byte : (left due : ℕ) (bs : List ℕ) (r : Reading) (b n : ℕ) → eqb b n ≡ true → Good left due (n ∷ bs) r → Good left due (b ∷ bs) r
at_byte left due bs r b n e g = subst (λ x. Good left due (x ∷ bs) r) (sym (eqb-true b n e)) g

-- what is read has the bytes, the number and the tokens that were asked for
good : (end left due : ℕ) (bs : List ℕ) → Good left due bs (parse end left due bs)
good end left zero bs = good_finish end left bs
good end left (suc due) [] = tt
good end zero (suc due) (b ∷ bs) = tt
good end (suc left) (suc due) (b ∷ bs) =
    let P : Reading → Type 0 = Good (suc left) (suc due) (b ∷ bs) in
    cond_both (eqb b 1) _ _ P (λ e. at_byte (suc left) (suc due) bs _ b 1 e (good_compare end left due bs _ (good end left due (past bs))))
    (λ _. cond_both (eqb b 2) _ _ P (λ e. at_byte (suc left) (suc due) bs _ b 2 e (good_join left due bs _ (good end left (suc (suc due)) bs)))
    (λ _. cond_both (eqb b 3) _ _ P (λ e. at_byte (suc left) (suc due) bs _ b 3 e (good_negate left due bs _ (good end left (suc due) bs)))
    (λ _. tt)))

-- of one predicate that was due
single : (bs : List ℕ) (ps : List Predicate) → Spelled 64 1 bs ps → (p : Predicate) × (ps ≡ p ∷ []) × (bs ≡ encode p) × Fields p × (tokens p ≤ 64)
single bs [] s = absurd (omega (arith, s.many))
single bs (p ∷ []) s = (p, refl, s.bytes ∙ append-nil (encode p), s.fields.0, omega (arith, s.few))
single bs (p ∷ q ∷ ps) s = absurd (omega (arith, s.many))

-- what is read has exactly the bytes that encode it
pub encodes_read : EncodesRead
unfolding read_predicate
encodes_read end bs ps e = single bs ps (subst (Good 64 1 bs) e (good end 64 1 bs))

-- the bytes of a predicate are decoded as that predicate
pub decoded_encode : (p : Predicate) → Fields p → tokens p ≤ 64 → decoded (encode p) ≡ p
unfolding decoded
decoded_encode p h few = ap first_read (reads_encoded (length (encode p)) p h few)

-- they are those of some predicate
pub spells_encode : (p : Predicate) → Fields p → tokens p ≤ 64 → spells (encode p) ≡ true
unfolding spells
spells_encode p h few = ap is_got (reads_encoded (length (encode p)) p h few)
