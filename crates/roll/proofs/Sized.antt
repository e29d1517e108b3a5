-- The tokens of a predicate: their bytes, how many they are, and how those of a whole are made of those of its parts.
use Rattle.std.proofs.Common.{◌≡◌, ℕ, suc, ◌≤◌, Bool, not, ◌&&◌, true, false, ltb, List, [], ◌∷◌, ◌++◌, length, get_or, take, drop, refl, sym, ap, ◌∙◌, subst, append_assoc, length-append, arith}
use Rattle.std.proofs.lemmas.List.{take_at, drop_at, take-append-drop, nil_from_length}
use Rattle.roll.specs.declared.field.Field.{Field}
use Rattle.roll.specs.declared.predicate.token.Token.{Token}
use Rattle.roll.specs.declared.predicate.token.Token.TheVariants.{Below, Both, Negated}
use Rattle.roll.specs.Predicates.{Predicate, below, both, negated, encode, tokens, passes, Fields}
use Rattle.roll.specs.Rows.{Row}
use Rattle.roll.specs.Tokens.{token_bytes, spelling, Codes}

-- the bytes of two lists of tokens
spelling_append : (xs ys : List Token) → spelling (xs ++ ys) ≡ spelling xs ++ spelling ys
spelling_append [] ys = refl
spelling_append (x ∷ xs) ys = ap (λ l. token_bytes x ++ l) (spelling_append xs ys) ∙ sym (append_assoc (token_bytes x) (spelling xs) (spelling ys))

-- the tokens of a predicate have its bytes
pub spelled : (ts : List Token) (p : Predicate) → Codes ts p → spelling ts ≡ encode p
spelled (Below g l ∷ ts) (below f k) c = rw (c.0, c.1, nil_from_length ts c.2) refl
spelled (Both n ∷ ts) (both p q) c =
    ap (λ l. 2 ∷ l) (ap spelling (sym (take-append-drop n ts)) ∙ spelling_append (take n ts) (drop n ts) ∙ ap (λ l. l ++ spelling (drop n ts)) (spelled (take n ts) p c.1) ∙ ap (λ l. encode p ++ l) (spelled (drop n ts) q c.2))
spelled (Negated ∷ ts) (negated p) c = ap (λ l. 3 ∷ l) (spelled ts p c)
spelled [] p c = elim c [ ]
spelled (Below g l ∷ ts) (both p q) c = elim c [ ]
spelled (Below g l ∷ ts) (negated p) c = elim c [ ]
spelled (Both n ∷ ts) (below f k) c = elim c [ ]
spelled (Both n ∷ ts) (negated p) c = elim c [ ]
spelled (Negated ∷ ts) (below f k) c = elim c [ ]
spelled (Negated ∷ ts) (both p q) c = elim c [ ]

-- they are as many as it has
pub many : (ts : List Token) (p : Predicate) → Codes ts p → length ts ≡ tokens p
many (Below g l ∷ ts) (below f k) c = omega (arith, c.2)
many (Both n ∷ ts) (both p q) c =
    omega (arith, many (take n ts) p c.1, many (drop n ts) q c.2, length-append (take n ts) (drop n ts), ap length (take-append-drop n ts))
many (Negated ∷ ts) (negated p) c = ap suc (many ts p c)
many [] p c = elim c [ ]
many (Below g l ∷ ts) (both p q) c = elim c [ ]
many (Below g l ∷ ts) (negated p) c = elim c [ ]
many (Both n ∷ ts) (below f k) c = elim c [ ]
many (Both n ∷ ts) (negated p) c = elim c [ ]
many (Negated ∷ ts) (below f k) c = elim c [ ]
many (Negated ∷ ts) (both p q) c = elim c [ ]

-- its fields are a row's
pub fields : (ts : List Token) (p : Predicate) → Codes ts p → Fields p
fields (Below g l ∷ ts) (below f k) c = omega (arith, g.fits, c.0)
fields (Both n ∷ ts) (both p q) c = (fields (take n ts) p c.1, fields (drop n ts) q c.2)
fields (Negated ∷ ts) (negated p) c = fields ts p c
fields [] p c = elim c [ ]
fields (Below g l ∷ ts) (both p q) c = elim c [ ]
fields (Below g l ∷ ts) (negated p) c = elim c [ ]
fields (Both n ∷ ts) (below f k) c = elim c [ ]
fields (Both n ∷ ts) (negated p) c = elim c [ ]
fields (Negated ∷ ts) (below f k) c = elim c [ ]
fields (Negated ∷ ts) (both p q) c = elim c [ ]

-- a token that asks for both, and the tokens of two predicates
pub paired : (n : ℕ) (xs ys : List Token) (p q : Predicate) → length xs ≡ n → Codes xs p → Codes ys q → Codes (Both n ∷ (xs ++ ys)) (both p q)
paired n xs ys p q e c d = (
  omega (arith, length-append xs ys),
  subst (λ l. Codes l p) (sym (take_at xs ys n e)) c,
  subst (λ l. Codes l q) (sym (drop_at xs ys n e)) d,
)

-- what a comparison tells is whether a row passes the predicate that has it for its only token
pub compares : (g : Field) (l : ℕ) (ts : List Token) (p : Predicate) (row : Row) → Codes (Below g l ∷ ts) p → ltb (get_or row g.number 0) l ≡ passes p row
unfolding passes
compares g l ts (below f k) row c = rw (c.0, c.1) refl
compares g l ts (both p q) row c = elim c [ ]
compares g l ts (negated p) row c = elim c [ ]

-- a predicate that asks for both of two, and the tokens of each
pub record Halves (n : ℕ) (ts : List Token) (p : Predicate) : Type 0 where
  pub first : Predicate
  pub second : Predicate
  pub is : p ≡ both first second
  pub within : n ≤ length ts
  pub firsts : Codes (take n ts) first
  pub seconds : Codes (drop n ts) second

-- so is each that has such a token first
pub halves : (n : ℕ) (ts : List Token) (p : Predicate) → Codes (Both n ∷ ts) p → Halves n ts p
halves n ts (below f k) c = elim c [ ]
halves n ts (both p q) c = record { first = p; second = q; is = refl; within = c.0; firsts = c.1; seconds = c.2 }
halves n ts (negated p) c = elim c [ ]

-- where a row passes the first half, the second one decides
pub then_passes : (n : ℕ) (ts : List Token) (p : Predicate) (row : Row) (a r : Bool) (h : Halves n ts p) → a ≡ true → a ≡ passes h.first row → r ≡ passes h.second row → r ≡ passes p row
unfolding passes
then_passes n ts p row a r h t x y =
    y ∙ ap (λ v. v && passes h.second row) (sym t ∙ x) ∙ sym (ap (λ q. passes q row) h.is)

-- where it does not, it does not pass
pub else_passes : (n : ℕ) (ts : List Token) (p : Predicate) (row : Row) (a : Bool) (h : Halves n ts p) → a ≡ false → a ≡ passes h.first row → a ≡ passes p row
unfolding passes
else_passes n ts p row a h t x =
    t ∙ ap (λ v. v && passes h.second row) (sym t ∙ x) ∙ sym (ap (λ q. passes q row) h.is)

-- a predicate that asks for the opposite of another, and the tokens of that
pub record Inverted (ts : List Token) (p : Predicate) : Type 0 where
  pub inner : Predicate
  pub is : p ≡ negated inner
  pub inners : Codes ts inner

-- so is each that has such a token first
pub inverted : (ts : List Token) (p : Predicate) → Codes (Negated ∷ ts) p → Inverted ts p
inverted ts (below f k) c = elim c [ ]
inverted ts (both p q) c = elim c [ ]
inverted ts (negated p) c = record { inner = p; is = refl; inners = c }

-- a row passes it where it does not pass the other
pub not_passes : (ts : List Token) (p : Predicate) (row : Row) (a : Bool) (h : Inverted ts p) → a ≡ passes h.inner row → not a ≡ passes p row
unfolding passes
not_passes ts p row a h x = ap not x ∙ sym (ap (λ q. passes q row) h.is)
