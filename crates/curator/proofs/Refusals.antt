-- Which lines are refused, and why, follows from what is public.
use Rattle.std.proofs.Common.{◌≡◌, ℕ, zero, suc, ◌/◌, List, [], length, Some, None, Option, sym, refl, ap, ◌∙◌, arith, length-drop}
use Rattle.roll.specs.Rows.{Row}
use Rattle.noise.specs.Dial.{Dial, our_dial}
use Rattle.noise.specs.Words.{words_of}
use Rattle.curator.specs.Lines.{Command, edit, ask, reject}
use Rattle.curator.specs.Curator.{Outcome, answered, refused, opening, verdict, by_verdict, reply, outcome, step, Commands, commands, transcript, transcript_of, Alike, equal, own_edit}
use Rattle.curator.specs.Statements.{refusal, RefusedAlike, NoRow}
use Rattle.curator.proofs.Lines.{taken_alike, paid_alike}
use Rattle.curator.proofs.Tapes.{length_words}

module _ (d : Dial) (i : ℕ) where
  -- lines that are alike are refused alike, whatever the rolls and the words
  refusal_same :
      {c e : Command} → Alike i c e → (left : ℕ) (budgets : List ℕ) (roll other : List Row) (xs ys : List ℕ) →
      refusal (reply d left budgets c roll xs) ≡ refusal (reply d left budgets e other ys)
  unfolding refusal reply by_verdict
  refusal_same own_edit left budgets roll other xs ys = refl
  refusal_same (equal {c}) left budgets roll other xs ys = go c
    where
      -- a verdict looks at no number that is released
      by : (v : Option (ℕ × ℕ)) (a u : ℕ) (us vs : List ℕ) → refusal (by_verdict v (answered a us u) refused) ≡ refusal (by_verdict v (answered a vs u) refused)
      by None a u us vs = refl
      by (Some e) a u us vs = refl

      -- the same line in both runs
      go : (c : Command) → refusal (reply d left budgets c roll xs) ≡ refusal (reply d left budgets c other ys)
      go (edit j x) = refl
      go (reject n k) = refl
      go (ask analyst q) = by (verdict d left budgets analyst q) _ _ _ _

  module _ (next other : Commands) (alike : (sofar : List Outcome) → Alike i (next sofar) (other sofar)) where
    -- and so over a run
    refused_alike :
        (n : ℕ) (roll roll' : List Row) (budgets tape words : List ℕ) (sofar : List Outcome) → length tape ≡ length words →
        RefusedAlike (transcript d next n (opening roll budgets tape) sofar) (transcript d other n (opening roll' budgets words) sofar)
    unfolding transcript outcome step
    refused_alike zero roll roll' budgets tape words sofar el = tt
    refused_alike (suc n) roll roll' budgets tape words sofar el = (
      rw (← el) (refusal_same (alike sofar) (length tape) budgets roll roll' _ _),
      λ e. rw (e, ← el, taken_alike d i (alike sofar) (length tape), paid_alike d i (alike sofar) (length tape) budgets)
          (refused_alike n _ _ _ _ _ _ (simp length-drop (omega arith))),
    )

-- from the opening on
pub no_row : NoRow
unfolding transcript_of
no_row write wrote i roll other as_many alike n budgets tape bytes el =
    rw (← as_many)
    (refused_alike our_dial i (commands (length roll) write) (commands (length roll) wrote) alike n roll other budgets (words_of tape) (words_of bytes) []
    (length_words tape ∙ ap (λ k. k / 8) el ∙ sym (length_words bytes)))
