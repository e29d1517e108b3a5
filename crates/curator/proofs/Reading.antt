-- A line by its kind.
use Rattle.std.proofs.Common.{◌≡◌, ℕ, ◌<◌, List, [], ◌∷◌, length, get_or, Ok, Err, Result, refl, ◌∙◌, arith}
use Rattle.std.proofs.lemmas.Bool.{cond-true, cond-false, eq-eqb, ne_eqb}
use Rattle.roll.specs.declared.refusal.Refusal.{Refusal}
use Rattle.query.specs.Lines.{read_query}
use Rattle.curator.specs.Lines.{Command, reject, ask_or, read_edit, read_line}
use Rattle.curator.specs.declared.command.kind.Kind.{Kind}
use Rattle.curator.specs.declared.command.kind.Kind.TheVariants as kind
use Rattle.curator.specs.Served.{kind_byte, As}
use Rattle.curator.specs.declared.command.Command.{Command as Stored}

module _ (places : ℕ) where
  -- no byte
  pub no_kind : (line : List ℕ) → length line ≡ 0 → read_line places line ≡ reject 5 0
  unfolding read_line
  no_kind [] h = refl
  no_kind (b ∷ bs) h = absurd (omega arith)

  -- a byte of no kind
  pub other_kind : (line : List ℕ) → ((k : Kind) → get_or line 0 0 ≡ kind_byte k → ⊥) → read_line places line ≡ reject 5 0
  unfolding read_line
  other_kind [] other = refl
  other_kind (b ∷ bs) other = cond-false _ _ _ (ne_eqb b 1 (other kind.Edit)) ∙ cond-false _ _ _ (ne_eqb b 2 (other kind.Query))

  -- an edit
  pub edit_kind : (line : List ℕ) → 0 < length line → get_or line 0 0 ≡ 1 → read_line places line ≡ read_edit places line
  unfolding read_line
  edit_kind [] h one = absurd (omega arith)
  edit_kind (b ∷ bs) h one = cond-true _ _ _ (eq-eqb b 1 one)

  -- a query
  pub query_kind : (line : List ℕ) → 0 < length line → get_or line 0 0 ≡ 2 → read_line places line ≡ ask_or (read_query line)
  unfolding read_line
  query_kind [] h two = absurd (omega arith)
  query_kind (b ∷ bs) h two = cond-false _ _ _ (ne_eqb b 1 (λ one. omega arith)) ∙ cond-true _ _ _ (eq-eqb b 2 two)

-- a reading of lines that gives the same commands
pub same_reading :
    (f g : ℕ → Command) → ((places : ℕ) → f places ≡ g places) → (r : Result Stored Refusal) → As g r → As f r
same_reading f g e (Ok c) h = λ places. e places ∙ h places
same_reading f g e (Err x) h = λ places. e places ∙ h places

-- a line by its kind, in all cases
pub ruleset kinds = (no_kind, other_kind, edit_kind, query_kind, same_reading)
