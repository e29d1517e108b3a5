-- How the tokens that were read make up the predicate that was read, and how a refusal within it is the line's.
use Rattle.std.proofs.Common.{◌≡◌, ℕ, suc, ◌+◌, ◌-◌, true, List, [], ◌∷◌, ◌++◌, length, set, Ok, Err, Result, refl, sym, ap, ◌∙◌, subst, append_assoc, arith, MatchResult}
use Rattle.std.proofs.Math.Seq.{set-append_seam}
use Rattle.roll.specs.declared.field.Field.{Field}
use Rattle.roll.specs.declared.predicate.token.Token.{Token}
use Rattle.roll.specs.declared.predicate.token.Token.TheVariants.{Below, Both, Negated}
use Rattle.roll.specs.declared.refusal.Refusal.{Refusal}
use Rattle.roll.specs.declared.rest.Rest.{Rest}
use Rattle.roll.specs.Predicates.{below, both, negated, encode, tokens}
use Rattle.roll.specs.Reading.{push, join, negate, finish, parse, read_predicate, spells, decoded}
use Rattle.roll.specs.Tokens.{spelling, Codes, Unread, Next, Scanned}
use Rattle.roll.proofs.Laws.{reads, decoded_encode, spells_encode}
use Rattle.roll.proofs.Sized.{spelled, many, fields, paired}

-- a reader of one predicate did its work, or a refusal
abbrev pub Scan : List Token → List Token → Rest → ℕ → Result (Rest × ℕ) Refusal → Type 0
Scan before after from left r = MatchResult r (λ x. Scanned before after from left x.0 x.1) (λ e. Unread e from left)

-- what is due is read as the predicate that was read first, and then the others from what is left
after_first : (before after : List Token) (from rest : Rest) (left fewer : ℕ) (s : Scanned before after from left rest fewer) (due : ℕ) → parse from.end left (suc due) from.bytes.now ≡ push s.predicate (parse rest.end fewer due rest.bytes.now)
after_first before after from rest left fewer s due =
    ap (λ n. parse from.end n (suc due) from.bytes.now) s.few ∙ ap (parse from.end (tokens s.predicate + fewer) (suc due)) s.spelled
    ∙ reads from.end s.predicate fewer due rest.bytes.now (fields s.read s.predicate s.codes)
    ∙ ap (λ e. push s.predicate (parse e fewer due rest.bytes.now)) (sym s.end)

-- a comparison is a predicate
pub scanned_below : (before after : List Token) (from rest : Rest) (left fewer : ℕ) (g : Field) (l : ℕ) → Next before after from left (Below g l) rest fewer → Scanned before after from left rest fewer
scanned_below before after from rest left fewer g l n =
    record { predicate = below g.number l; read = Below g l ∷ []; codes = (refl, refl, refl); added = n.added; spelled = n.spelled; end = n.end; few = omega (arith, n.few) }

-- after a token that negates, the rest of the predicate
pub scan_negated : (before mid after : List Token) (from rest : Rest) (left fewer : ℕ) (r : Result (Rest × ℕ) Refusal) → Next before mid from left Negated rest fewer → Scan mid after rest fewer r → Scan before after from left r
scan_negated before mid after from rest left fewer (Ok x) n s =
    record { predicate = negated s.predicate; read = Negated ∷ s.read; codes = s.codes; added = s.added ∙ ap (λ l. l ++ s.read) n.added ∙ append_assoc before (Negated ∷ []) s.read; spelled = n.spelled ∙ ap (λ l. 3 ∷ l) s.spelled; end = s.end ∙ n.end; few = omega (arith, n.few, s.few) }
scan_negated before mid after from rest left fewer (Err e) n u = λ due.
    ap (λ k. parse from.end k (suc due) from.bytes.now) n.few ∙ ap (parse from.end (suc fewer) (suc due)) n.spelled
    ∙ ap negate (ap (λ k. parse k fewer (suc due) rest.bytes.now) (sym n.end) ∙ u due)

-- the tokens that were read, with that of a pair changed
repaired : (before mid more last : List Token) (m n : ℕ) (read : List Token) → mid ≡ before ++ Both m ∷ [] → more ≡ mid ++ read → last ≡ set more (length before) (Both n) → last ≡ before ++ Both n ∷ read
repaired before mid more last m n read a b c =
    c ∙ ap (λ l. set l (length before) (Both n)) (b ∙ ap (λ l. l ++ read) a ∙ append_assoc before (Both m ∷ []) read) ∙ set-append_seam before (Both m) read (Both n)

-- after a token that asks for both of two, and the first of them, the second
pub scan_both : (before mid more last after : List Token) (from rest second : Rest) (left fewer least m n : ℕ) (r : Result (Rest × ℕ) Refusal) → Next before mid from left (Both m) rest fewer → Scanned mid more rest fewer second least → n ≡ fewer - least → last ≡ set more (length before) (Both n) → Scan last after second least r → Scan before after from left r
scan_both before mid more last after from rest second left fewer least m n (Ok x) t s e c u = record {
  predicate = both s.predicate u.predicate;
  read = Both n ∷ (s.read ++ u.read);
  codes = paired n s.read u.read s.predicate u.predicate (omega (arith, many s.read s.predicate s.codes, s.few, e)) s.codes u.codes;
  added = u.added ∙ ap (λ l. l ++ u.read) (repaired before mid more last m n s.read t.added s.added c) ∙ append_assoc before (Both n ∷ s.read) u.read;
  spelled = t.spelled ∙ ap (λ l. 2 ∷ l) (s.spelled ∙ ap (λ l. encode s.predicate ++ l) u.spelled ∙ sym (append_assoc (encode s.predicate) (encode u.predicate) x.0.bytes.now));
  end = u.end ∙ s.end ∙ t.end;
  few = omega (arith, t.few, s.few, u.few);
}
scan_both before mid more last after from rest second left fewer least m n (Err e) t s d c u = λ due.
    ap (λ k. parse from.end k (suc due) from.bytes.now) t.few ∙ ap (parse from.end (suc fewer) (suc due)) t.spelled
    ∙ ap join (ap (λ k. parse k fewer (suc (suc due)) rest.bytes.now) (sym t.end) ∙ after_first mid more rest second fewer least s (suc due) ∙ ap (push s.predicate) (u due))

-- a whole line is read as the predicate that was read first, and nothing may be left
pub whole : (before after : List Token) (from rest : Rest) (fewer : ℕ) (s : Scanned before after from 64 rest fewer) → read_predicate from.end from.bytes.now ≡ push s.predicate (finish rest.end rest.bytes.now)
unfolding read_predicate
whole before after from rest fewer s = after_first before after from rest 64 fewer s 0

-- the tokens that were read have the bytes of their predicate
bytes : (before after : List Token) (from rest : Rest) (fewer : ℕ) (s : Scanned before after from 64 rest fewer) → before ≡ [] → spelling after ≡ encode s.predicate
bytes before after from rest fewer s none =
    ap spelling (s.added ∙ ap (λ l. l ++ s.read) none) ∙ spelled s.read s.predicate s.codes

-- so they are decoded as it
pub stand_for : (before after : List Token) (from rest : Rest) (fewer : ℕ) (s : Scanned before after from 64 rest fewer) → before ≡ [] → decoded (spelling after) ≡ s.predicate
stand_for before after from rest fewer s none =
    ap decoded (bytes before after from rest fewer s none)
    ∙ decoded_encode s.predicate (fields s.read s.predicate s.codes) (omega (arith, s.few))

-- they are those of a predicate
pub are_valid : (before after : List Token) (from rest : Rest) (fewer : ℕ) → Scanned before after from 64 rest fewer → before ≡ [] → spells (spelling after) ≡ true
are_valid before after from rest fewer s none =
    ap spells (bytes before after from rest fewer s none)
    ∙ spells_encode s.predicate (fields s.read s.predicate s.codes) (omega (arith, s.few))

-- and of that one
pub are_sized : (before after : List Token) (from rest : Rest) (fewer : ℕ) → Scanned before after from 64 rest fewer → before ≡ [] → Codes after (decoded (spelling after))
are_sized before after from rest fewer s none =
    rw (stand_for before after from rest fewer s none) (subst (λ l. Codes l s.predicate) (sym (s.added ∙ ap (λ l. l ++ s.read) none)) s.codes)
