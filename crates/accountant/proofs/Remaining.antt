-- The reckoning, one line more at a time.
use Rattle.std.proofs.Common.{◌≡◌, ℕ, ◌+◌, ◌<◌, cond, eqb, List, [], ◌∷◌, map, length, get_or, drop, Ok, Err, Result, sym, ap, ◌∙◌, ⊎_elim, add-one, arith}
use Rattle.std.proofs.lemmas.List.{drop_more, drop_all}
use Rattle.std.proofs.lemmas.Bool.{cases_eq, cond-true, cond-false, eq-eqb, ne_eqb}
use Rattle.curator.specs.declared.outcome.Outcome.{Outcome as Given}
use Rattle.curator.specs.Curator.{Outcome}
use Rattle.curator.specs.Served.{outcome_of}
use Rattle.curator.specs.Scripts.{first_line, after_line, lines_in}
use Rattle.curator.proofs.Scripts.{lines_more, lines_none}
use Rattle.accountant.specs.declared.impossible.Flaw.{Flaw}
use Rattle.accountant.specs.declared.impossible.Flaw.TheVariants.{NoLine, NoOutcome}
use Rattle.accountant.specs.declared.impossible.Impossible.{Impossible}
use Rattle.accountant.specs.Accountant.{Standing, standing, entered, impossible, then_on, audited_from, audited}

-- what stands as at the opening gives the whole reckoning
pub opened : (s : Standing) (budgets : List ℕ) (lines : List (List ℕ)) (os : List Outcome) → s ≡ standing budgets 0 → audited_from 0 s lines os ≡ audited budgets lines os
unfolding audited
opened s budgets lines os is = ap (λ x. audited_from 0 x lines os) is

module _ (i : ℕ) (s : Standing) (bytes : List ℕ) (os : List Given) where
  -- what is left gives this
  abbrev rest : Result Standing Impossible
  rest = audited_from i s (lines_in bytes) (map outcome_of (drop i os))

  -- no outcome more: no line may be left
  pub ends : length os ≡ i → rest ≡ cond (eqb (length bytes) 0) (Ok s) (Err (impossible (length os) NoOutcome))
  unfolding audited_from
  ends last =
      let none : drop i os ≡ [] = drop_all i os (omega arith) in
      ⊎_elim
      (λ (empty : length bytes ≡ 0).
      ap (λ ls. audited_from i s ls (map outcome_of (drop i os))) (lines_none bytes empty)
      ∙ ap (λ xs. audited_from i s [] (map outcome_of xs)) none
      ∙ sym (cond-true _ _ _ (eq-eqb (length bytes) 0 empty)))
      (λ (some : length bytes ≡ 0 → ⊥).
      ap (λ ls. audited_from i s ls (map outcome_of (drop i os))) (lines_more bytes (omega arith))
      ∙ ap (λ xs. audited_from i s (first_line bytes ∷ lines_in (after_line bytes)) (map outcome_of xs)) none
      ∙ ap (λ n. Err (impossible n NoOutcome)) (sym last)
      ∙ sym (cond-false _ _ _ (ne_eqb (length bytes) 0 some)))
      (cases_eq (length bytes) 0)

  module _ (o : Given) (here : i < length os) (is : o ≡ get_or os i o) where
    -- the next outcome stands before those that are left
    next : drop i os ≡ o ∷ drop (i + 1) os
    next = drop_more os i o here ∙ ap (λ x. x ∷ drop (i + 1) os) (sym is)

    -- an outcome more, but no line
    pub no_line : length bytes ≡ 0 → rest ≡ Err (impossible i NoLine)
    unfolding audited_from
    no_line none =
        ap (λ ls. audited_from i s ls (map outcome_of (drop i os))) (lines_none bytes none)
        ∙ ap (λ xs. audited_from i s [] (map outcome_of xs)) next

    -- an outcome more, and a line
    one_more :
        0 < length bytes →
        rest ≡ then_on i (entered s (first_line bytes) (outcome_of o)) (λ r. audited_from (i + 1) r (lines_in (after_line bytes)) (map outcome_of (drop (i + 1) os)))
    unfolding audited_from
    one_more some =
        ap (λ ls. audited_from i s ls (map outcome_of (drop i os))) (lines_more bytes some)
        ∙ ap (λ xs. audited_from i s (first_line bytes ∷ lines_in (after_line bytes)) (map outcome_of xs)) next
        ∙ ap (λ j. then_on i (entered s (first_line bytes) (outcome_of o)) (λ r. audited_from j r (lines_in (after_line bytes)) (map outcome_of (drop (i + 1) os)))) (sym (add-one i))

    module _ (line after : List ℕ) (some : 0 < length bytes) (first : line ≡ first_line bytes) (follows : after ≡ after_line bytes) where
      -- by what the line leads to
      next_line :
          rest ≡ then_on i (entered s line (outcome_of o)) (λ r. audited_from (i + 1) r (lines_in after) (map outcome_of (drop (i + 1) os)))
      next_line =
          one_more some
          ∙ ap (λ l. then_on i (entered s l (outcome_of o)) (λ r. audited_from (i + 1) r (lines_in (after_line bytes)) (map outcome_of (drop (i + 1) os)))) (sym first)
          ∙ ap (λ b. then_on i (entered s line (outcome_of o)) (λ r. audited_from (i + 1) r (lines_in b) (map outcome_of (drop (i + 1) os)))) (sym follows)

      -- it is entered
      pub goes_on : (r : Standing) → Ok r ≡ entered s line (outcome_of o) → audited_from (i + 1) r (lines_in after) (map outcome_of (drop (i + 1) os)) ≡ rest
      goes_on r is = ap (λ x. then_on i x (λ t. audited_from (i + 1) t (lines_in after) (map outcome_of (drop (i + 1) os)))) is ∙ sym next_line

      -- or it is impossible
      pub stops : (flaw : Flaw) → Err flaw ≡ entered s line (outcome_of o) → Err (impossible i flaw) ≡ rest
      stops flaw is = ap (λ x. then_on i x (λ t. audited_from (i + 1) t (lines_in after) (map outcome_of (drop (i + 1) os)))) is ∙ sym next_line

pub ruleset remaining = (opened, ends, no_line, goes_on, stops)
