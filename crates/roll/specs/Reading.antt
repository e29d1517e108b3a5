-- How the bytes of a predicate are read, and where they are refused.
use Rattle.std.specs.Prelude.{◌≡◌, ℕ, zero, suc, ◌-◌, ◌≤◌, Bool, true, false, cond, List, [], ◌∷◌, length, Ok, Err, Result, ◌==◌, nat_lt}
use Rattle.roll.specs.declared.refusal.Refusal.{Refusal}
use Rattle.roll.specs.Predicates.{Predicate, below, both, negated, encode, tokens, Fields}
use Rattle.roll.specs.Refusals.{number, place}

-- the predicates that were read one after the other, or the number and the place of the refusal
pub data Reading : Type 0 where
  got : List Predicate → Reading
  refused : ℕ → ℕ → Reading

-- a predicate before those that were read
abbrev pub push : Predicate → Reading → Reading
push p (got ps) = got (p ∷ ps)
push p (refused n k) = refused n k

-- the first two of those that were read, made one
abbrev pub join : Reading → Reading
join (got []) = got []
join (got (p ∷ [])) = got (p ∷ [])
join (got (p ∷ q ∷ ps)) = got (both p q ∷ ps)
join (refused n k) = refused n k

-- the first of those that were read, negated
abbrev pub negate : Reading → Reading
negate (got []) = got []
negate (got (p ∷ ps)) = got (negated p ∷ ps)
negate (refused n k) = refused n k

-- the place, in a line of `end` bytes, where its last bytes bs begin
abbrev pub place_in : ℕ → List ℕ → ℕ
place_in end bs = end - length bs

-- no byte may follow the last predicate
abbrev pub finish : ℕ → List ℕ → Reading
finish end [] = got []
finish end (b ∷ bs) = refused 17 (place_in end (b ∷ bs))

-- the field and the number after the byte 1, where r is what is read after them
abbrev pub compare_with : ℕ → List ℕ → Reading → Reading
compare_with end [] r = refused 9 end
compare_with end (f ∷ []) r = cond (nat_lt 15 f) (refused 16 (place_in end (f ∷ []))) (refused 9 end)
compare_with end (f ∷ k ∷ bs) r = cond (nat_lt 15 f) (refused 16 (place_in end (f ∷ k ∷ bs))) (push (below f k) r)

-- the bytes after the field and the number
abbrev pub past : List ℕ → List ℕ
past [] = []
past (f ∷ []) = []
past (f ∷ k ∷ bs) = bs

-- `due` predicates in a row, of at most `left` tokens, that end a line of `end` bytes
abbrev pub parse : ℕ → ℕ → ℕ → List ℕ → Reading
parse end left zero bs = finish end bs
parse end left (suc due) [] = refused 9 end
parse end zero (suc due) (b ∷ bs) = refused 14 (place_in end (b ∷ bs))
parse end (suc left) (suc due) (b ∷ bs) =
    cond (b == 1) (compare_with end bs (parse end left due (past bs)))
    (cond (b == 2) (join (parse end left (suc (suc due)) bs))
    (cond (b == 3) (negate (parse end left (suc due) bs))
    (refused 15 (place_in end (b ∷ bs)))))

-- one predicate of at most 64 tokens, that ends a line of `end` bytes
unfoldable pub read_predicate : ℕ → List ℕ → Reading
read_predicate end bs = parse end 64 1 bs

-- the first of some predicates; where there is none, one that no row passes
abbrev pub first : List Predicate → Predicate
first [] = below 0 0
first (p ∷ ps) = p

-- the first predicate that was read; where reading was refused, one that no row passes
abbrev pub first_read : Reading → Predicate
first_read (got ps) = first ps
first_read (refused n k) = below 0 0

-- whether reading was not refused
abbrev pub is_got : Reading → Bool
is_got (got ps) = true
is_got (refused n k) = false

-- whether the bytes are those of one predicate, and nothing more
unfoldable pub spells : List ℕ → Bool
spells bs = is_got (read_predicate (length bs) bs)

-- the predicate that the bytes are read as
unfoldable pub decoded : List ℕ → Predicate
decoded bs = first_read (read_predicate (length bs) bs)

-- whether what code hands back is a refusal, and how
abbrev pub outcome : {X : Type 0} → Result X Refusal → Reading
outcome (Ok x) = got []
outcome (Err e) = refused (number e) (place e)

-- a predicate of at most 64 tokens, each of its fields one of a row's, is read again from the bytes that encode it
abbrev pub ReadsEncoded : Type 0
ReadsEncoded = (end : ℕ) (p : Predicate) → Fields p → tokens p ≤ 64 → read_predicate end (encode p) ≡ got (p ∷ [])

-- whatever is read is one such predicate, and has exactly the bytes that encode it
abbrev pub EncodesRead : Type 0
EncodesRead =
    (end : ℕ) (bs : List ℕ) (ps : List Predicate) → read_predicate end bs ≡ got ps →
    (p : Predicate) × (ps ≡ p ∷ []) × (bs ≡ encode p) × Fields p × (tokens p ≤ 64)
