-- The reckoning over a run of the curator.
use Rattle.std.proofs.Common.{◌≡◌, ℕ, zero, suc, ◌+◌, ◌-◌, Bool, true, false, cond, ltb, List, [], ◌∷◌, ◌++◌, length, get_or, take, drop, Some, None, Ok, Option, sym, refl, ap, ◌∙◌, subst, add-zero, add_assoc, zero-add, arith, length-append, length-drop}
use Rattle.std.proofs.lemmas.List.{drop_all, drop_more}
use Rattle.std.proofs.lemmas.Bool.{cond-true, eq-eqb}
use Rattle.roll.specs.Rows.{Row}
use Rattle.query.specs.Query.{Query, cells, cost, counts}
use Rattle.noise.specs.Dial.{Dial, our_dial}
use Rattle.noise.specs.Release.{all_released}
use Rattle.noise.specs.Words.{words_of}
use Rattle.budget.specs.Budget.{payment_refusal}
use Rattle.curator.specs.Lines.{Command, edit, ask, reject, read_line}
use Rattle.curator.specs.Curator.{Outcome, answered, edited, refused, State, at_opening, page, verdict, by_verdict, taken, reply, charge, price, paid, outcome, step, Strategy, Commands, commands, transcript, transcript_of, state_after, state_of, spent, spent_of}
use Rattle.curator.specs.Scripts.{script}
use Rattle.curator.proofs.Replies.{refused_reply, refused_paid, granted_reply, granted_paid, left_after}
use Rattle.curator.proofs.Tapes.{length_words}
use Rattle.accountant.specs.Accountant.{Standing, standing, query_in, query_of_line, if_paid, charged, misfit, after_answer, answer_to, entered, then_on, audited_from, audited, written}
use Rattle.accountant.specs.Statements.{Audits, curator_standing}
use Rattle.accountant.proofs.Entries.{by_left, counts_length}
use Rattle.accountant.proofs.Queries.{query_alike}

-- an answer has a number for each count
released_length : (d : Dial) (cs words : List ℕ) → length (all_released d cs words) ≡ length cs
unfolding all_released
released_length d [] words = refl
released_length d (c ∷ cs) words = ap suc (released_length d cs _)

-- an answer that has all that it must have is entered
answer_entered :
    (s : Standing) (analyst : ℕ) (q : Query) (numbers : List ℕ) → length numbers ≡ length (cells q) → None ≡ payment_refusal s.budgets analyst (cost q) →
    after_answer s analyst q analyst numbers (get_or s.budgets analyst 0 - cost q) ≡ Ok (charged s analyst (cost q))
answer_entered s analyst q numbers size pays =
    let after : ℕ = get_or s.budgets analyst 0 - cost q in
    let fit : None ≡ misfit analyst q analyst numbers =
    sym (cond-true _ _ _ (eq-eqb analyst analyst refl) ∙ cond-true _ _ _ (eq-eqb (length numbers) (length (cells q)) size)) in
    by_left s (charged s analyst (cost q)) analyst q analyst numbers after fit (ap (λ e. if_paid e (Ok (charged s analyst (cost q)))) pays)
    ∙ cond-true _ _ _ (eq-eqb after _ (sym (left_after s.budgets analyst (cost q))))

module _ (d : Dial) (left : ℕ) (budgets : List ℕ) where
  -- a query that is granted is one that the budgets can pay
  can_pay : (analyst : ℕ) (q : Query) → None ≡ verdict d left budgets analyst q → None ≡ payment_refusal budgets analyst (cost q)
  unfolding verdict
  can_pay analyst q granted = go (ltb left (page d)) granted
    where
      -- by whether a page is left
      go : (b : Bool) → None ≡ cond b (Some (20, 0)) (payment_refusal budgets analyst (cost q)) → None ≡ payment_refusal budgets analyst (cost q)
      go true e = let z : ◌≡◌ {A = ℕ} 0 1 = cc in absurd (omega arith)
      go false e = e

  -- the price of a query by its verdict
  refused_price : (analyst : ℕ) (q : Query) (e : ℕ × ℕ) → Some e ≡ verdict d left budgets analyst q → (o : Outcome) → 0 ≡ price d left budgets (ask analyst q) o
  unfolding price by_verdict
  refused_price analyst q e v o = ap (λ x. by_verdict x (charge q o) (λ n k. 0)) v

  granted_price : (analyst : ℕ) (q : Query) → None ≡ verdict d left budgets analyst q → (a u : ℕ) (xs : List ℕ) → cost q ≡ price d left budgets (ask analyst q) (answered a xs u)
  unfolding price by_verdict charge
  granted_price analyst q v a u xs = ap (λ x. by_verdict x (cost q) (λ n k. 0)) v

  -- what the curator makes of a line is entered as the curator charges it
  abbrev Entered : ℕ → List ℕ → Command → Outcome → Type 0
  Entered k line c o = entered (standing budgets k) line o ≡ Ok (standing (paid d left budgets c o) (k + price d left budgets c o))

  -- nothing is charged
  free : (k : ℕ) (line : List ℕ) (c : Command) (o : Outcome) → entered (standing budgets k) line o ≡ Ok (standing budgets k) →
      budgets ≡ paid d left budgets c o → 0 ≡ price d left budgets c o → Entered k line c o
  free k line c o is same none =
      is ∙ ap (λ b. Ok (standing b k)) same ∙ ap (λ m. Ok (standing (paid d left budgets c o) m)) (omega arith)

  -- each line
  line_entered :
      (places k : ℕ) (line : List ℕ) (c : Command) → read_line places line ≡ c → (rows : List Row) (words : List ℕ) → Entered k line c (reply d left budgets c rows words)
  unfolding reply paid price
  line_entered places k line (edit i r) e rows words = free k line (edit i r) edited refl refl refl
  line_entered places k line (reject n m) e rows words = free k line (reject n m) (refused n m) refl refl refl
  line_entered places k line (ask analyst q) e rows words = go (verdict d left budgets analyst q) refl
    where
      -- by the verdict on a query
      go : (v : Option (ℕ × ℕ)) → v ≡ verdict d left budgets analyst q → Entered k line (ask analyst q) (reply d left budgets (ask analyst q) rows words)
      go (Some r) v =
          subst (Entered k line (ask analyst q)) (refused_reply d left budgets analyst q r v rows words)
          (free k line (ask analyst q) (refused r.0 r.1) refl (refused_paid d left budgets analyst q r v _) (refused_price analyst q r v _))
      go None v =
          let numbers : List ℕ = all_released d (counts (cells q) rows) words in
          let after : ℕ = get_or budgets analyst 0 - cost q in
          let is : query_of_line line ≡ Some (analyst, q) = query_alike places line ∙ ap query_in e in
          let size : length numbers ≡ length (cells q) = released_length d (counts (cells q) rows) words ∙ counts_length (cells q) rows in
          subst (Entered k line (ask analyst q)) (granted_reply d left budgets analyst q v rows words)
          (ap (λ x. answer_to (standing budgets k) x analyst numbers after) is
          ∙ answer_entered (standing budgets k) analyst q numbers size (can_pay analyst q v)
          ∙ ap (λ b. Ok (standing b (k + cost q))) (granted_paid d left budgets analyst q v analyst after numbers)
          ∙ ap (λ m. Ok (standing (paid d left budgets (ask analyst q) (answered analyst numbers after)) (k + m))) (granted_price analyst q v analyst after numbers))

module _ (d : Dial) (places : ℕ) (write : Strategy) where
  -- what the next line asks for
  abbrev next : Commands
  next = commands places write

  -- each line has an outcome
  transcript_length : (n : ℕ) (s : State) (sofar : List Outcome) → length (transcript d next n s sofar) ≡ n
  unfolding transcript
  transcript_length zero s sofar = refl
  transcript_length (suc n) s sofar = ap suc (transcript_length n _ _)

  -- a run, from any state on
  audited_run :
      (n i k : ℕ) (s : State) (sofar : List Outcome) →
      audited_from i (standing s.budgets k) (written write sofar (transcript d next n s sofar)) (transcript d next n s sofar)
      ≡ Ok (standing (state_after d next n s sofar).budgets (k + spent d next (length s.tape) s.budgets sofar (transcript d next n s sofar)))
  unfolding transcript state_after audited_from written spent outcome step
  audited_run zero i k s sofar = ap (λ m. Ok (standing s.budgets m)) (sym (add-zero k))
  audited_run (suc n) i k s sofar =
      let c : Command = next sofar in
      let left : ℕ = length s.tape in
      let o : Outcome = outcome d s c in
      let after : State = step d s c o in
      let more : List Outcome = sofar ++ (o ∷ []) in
      let t : List Outcome = transcript d next n after more in
      let units : ℕ = price d left s.budgets c o in
      ap (λ r. then_on i r (λ x. audited_from (suc i) x (written write more t) t))
      (line_entered d left s.budgets places k (write sofar) c refl s.roll (take (taken d left c) s.tape))
      ∙ audited_run n (suc i) (k + units) after more
      ∙ ap (λ l. Ok (standing (state_after d next n after more).budgets (k + units + spent d next l after.budgets more t))) (length-drop (taken d left c) s.tape)
      ∙ ap (λ m. Ok (standing (state_after d next n after more).budgets m)) (add_assoc k units _)

-- the lines of a list that are left, as they are written one after the other
written_script :
    (lines : List (List ℕ)) (sofar os : List Outcome) → length sofar + length os ≡ length lines → written (script lines) sofar os ≡ drop (length sofar) lines
unfolding written
written_script lines sofar [] h = sym (drop_all (length sofar) lines (omega arith))
written_script lines sofar (o ∷ os) h =
    let size : length (sofar ++ (o ∷ [])) ≡ length sofar + 1 = length-append sofar (o ∷ []) in
    ap (λ ls. get_or lines (length sofar) [] ∷ ls) (written_script lines (sofar ++ (o ∷ [])) os (omega arith) ∙ ap (λ n. drop n lines) size)
    ∙ sym (drop_more lines (length sofar) [] (omega arith))

-- which are all lines of the list at the end
all_written :
    (lines : List (List ℕ)) (roll : List Row) (budgets tape : List ℕ) →
    written (script lines) [] (transcript_of (script lines) (length lines) roll budgets tape) ≡ lines
unfolding transcript_of
all_written lines roll budgets tape =
    let t : List Outcome = transcript our_dial (commands (length roll) (script lines)) (length lines) (at_opening roll budgets tape) [] in
    let size : length t ≡ length lines = transcript_length our_dial (length roll) (script lines) (length lines) (at_opening roll budgets tape) [] in
    written_script lines [] t (omega arith)

-- whoever write the lines
pub strategies :
    (write : Strategy) (n : ℕ) (roll : List Row) (budgets tape : List ℕ) →
    audited budgets (written write [] (transcript_of write n roll budgets tape)) (transcript_of write n roll budgets tape)
    ≡ Ok (curator_standing write n roll budgets tape)
unfolding audited transcript_of state_of spent_of
strategies write n roll budgets tape =
    let start : State = at_opening roll budgets tape in
    let t : List Outcome = transcript our_dial (commands (length roll) write) n start [] in
    let last : State = state_after our_dial (commands (length roll) write) n start [] in
    audited_run our_dial (length roll) write n 0 0 start []
    ∙ ap (λ m. Ok (standing last.budgets m)) (zero-add (spent our_dial (commands (length roll) write) (length (words_of tape)) budgets [] t))
    ∙ ap (λ l. Ok (standing last.budgets (spent our_dial (commands (length roll) write) l budgets [] t))) (length_words tape)

-- both, for the curator's runs
pub audits : Audits
audits =
    record {
      strategies = strategies;
      scripts = λ lines roll budgets tape.
          ap (λ ls. audited budgets ls (transcript_of (script lines) (length lines) roll budgets tape)) (sym (all_written lines roll budgets tape))
          ∙ strategies (script lines) (length lines) roll budgets tape;
    }
