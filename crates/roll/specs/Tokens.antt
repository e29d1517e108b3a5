-- The tokens of a predicate in memory: which stand for it, their bytes, and how they are read.
use Rattle.std.specs.Prelude.{◌≡◌, ℕ, suc, ◌+◌, ◌-◌, ◌≤◌, Bool, List, [], ◌∷◌, ◌++◌, length, take, drop, Ok, Err, Result}
use Rattle.std.specs.Coded.{le_prop, Coded-set, coded_ℕ}
use mathlib.Core.HLevel.{×₃_prop, ⊥_prop}
use Rattle.roll.specs.declared.predicate.token.Token.{Token}
use Rattle.roll.specs.declared.predicate.token.Token.TheVariants.{Below, Both, Negated}
use Rattle.roll.specs.declared.refusal.Refusal.{Refusal}
use Rattle.roll.specs.declared.rest.Rest.{Rest}
use Rattle.roll.specs.Predicates.{Predicate, below, both, negated, encode, tokens, passes}
use Rattle.roll.specs.Reading.{refused, parse}
use Rattle.roll.specs.Refusals.{number, place}
use Rattle.roll.specs.Rows.{Row}

-- the bytes of a token: 1, the field and the number; 2; or 3
abbrev pub token_bytes : Token → List ℕ
token_bytes (Below f k) = 1 ∷ f.number ∷ k ∷ []
token_bytes (Both n) = 2 ∷ []
token_bytes Negated = 3 ∷ []

-- the bytes of some tokens
abbrev pub spelling : List Token → List ℕ
spelling [] = []
spelling (t ∷ ts) = token_bytes t ++ spelling ts

-- the tokens are those of the predicate, and each that asks for both of two knows how many of those after it are the first's
abbrev pub Codes : List Token → Predicate → Type 0
Codes (Below g l ∷ ts) (below f k) = (g.number ≡ f) × (l ≡ k) × (length ts ≡ 0)
Codes (Both n ∷ ts) (both p q) = (n ≤ length ts) × Codes (take n ts) p × Codes (drop n ts) q
Codes (Negated ∷ ts) (negated p) = Codes ts p
Codes ts p = ⊥

-- tokens are those of a predicate in one way
pub Codes-prop : (ts : List Token) (p : Predicate) → IsProp (Codes ts p)
Codes-prop (Below g l ∷ ts) (below f k) =
    ×₃_prop (Coded-set coded_ℕ g.number f) (Coded-set coded_ℕ l k) (Coded-set coded_ℕ (length ts) 0)
Codes-prop (Both n ∷ ts) (both p q) = ×₃_prop le_prop (Codes-prop (take n ts) p) (Codes-prop (drop n ts) q)
Codes-prop (Negated ∷ ts) (negated p) = Codes-prop ts p
Codes-prop ts p = ⊥_prop

-- the tokens are those of some predicate
pub record Coded (ts : List Token) : Type 0 where
  pub predicate : Predicate
  pub codes : Codes ts predicate

-- whichever predicate the tokens are those of: the verdict says whether the row passes it
abbrev pub IsVerdict : List Token → Row → Bool → Type 0
IsVerdict ts row verdict = (p : Predicate) → Codes ts p → verdict ≡ passes p row

-- the token that a byte and those after it begin with, and what is left; or why no predicate that is due can begin so, at the place of that byte
abbrev pub ReadToken : Result (Token × Rest) Refusal → ℕ → ℕ → Rest → Type 0
ReadToken (Ok (t, r)) byte at rest = (byte ∷ rest.bytes.now ≡ token_bytes t ++ r.bytes.now) × (r.end ≡ rest.end)
ReadToken (Err e) byte at rest =
    at ≡ rest.end - length (byte ∷ rest.bytes.now) → (left due : ℕ) →
    parse rest.end (suc left) (suc due) (byte ∷ rest.bytes.now) ≡ refused (number e) (place e)

-- no predicate can be read first, of at most `left` tokens, however many are due after it
abbrev pub Unread : Refusal → Rest → ℕ → Type 0
Unread e rest left = (due : ℕ) → parse rest.end left (suc due) rest.bytes.now ≡ refused (number e) (place e)

-- a token was read, of at most `left`: it stands after those that were read before, and this is left of the line and of the tokens
pub record Next (before after : List Token) (from : Rest) (left : ℕ) (token : Token) (rest : Rest) (fewer : ℕ) : Type 0 where
  pub added : after ≡ before ++ token ∷ []
  pub spelled : from.bytes.now ≡ token_bytes token ++ rest.bytes.now
  pub end : rest.end ≡ from.end
  pub few : left ≡ suc fewer

-- a predicate was read, of at most `left` tokens: they stand after those that were read before, and this is left of the line and of the tokens
pub record Scanned (before after : List Token) (from : Rest) (left : ℕ) (rest : Rest) (fewer : ℕ) : Type 0 where
  pub predicate : Predicate
  pub read : List Token
  pub codes : Codes read predicate
  pub added : after ≡ before ++ read
  pub spelled : from.bytes.now ≡ encode predicate ++ rest.bytes.now
  pub end : rest.end ≡ from.end
  pub few : left ≡ tokens predicate + fewer
