-- What is left and what was spent are together what the budgets held.
use Rattle.std.proofs.Common.{◌≡◌, ℕ, suc, ◌+◌, ◌-◌, Bool, true, false, cond, eqb, List, [], ◌∷◌, get_or, Some, None, Ok, Err, Option, Result, sym, refl, ap, ◌∙◌, add-zero, arith}
use Rattle.roll.specs.Numbers.{total}
use Rattle.query.specs.Query.{Query, cost}
use Rattle.budget.specs.Budget.{payment_refusal}
use Rattle.curator.specs.Curator.{Outcome, answered, edited, refused}
use Rattle.accountant.specs.declared.impossible.Flaw.{Flaw}
use Rattle.accountant.specs.declared.impossible.Flaw.TheVariants.{BudgetLeft}
use Rattle.accountant.specs.Accountant.{Standing, standing, query_of_line, if_paid, charged, misfit, unless, if_left, answer_to, entered, then_on, audited_from, audited}
use Rattle.accountant.specs.Statements.{Kept, curator_standing}
use Rattle.accountant.proofs.Entries.{charged_balance, was_paid}
use Rattle.accountant.proofs.Runs.{strategies}

-- the units that are left and that were spent, together
abbrev all : Standing → ℕ
all s = total s.budgets + s.spent

-- a test that is passed on the way to an answer
passed : (b : Bool) (x : Result Standing Flaw) (f : Flaw) (r : Standing) → Ok r ≡ cond b x (Err f) → Ok r ≡ x
passed true x f r e = e
passed false x f r e = let z : ◌≡◌ {A = ℕ} 0 1 = cc in absurd (omega arith)

-- a flaw that is not there
fitted : (f : Option Flaw) (x : Result Standing Flaw) (r : Standing) → Ok r ≡ unless f x → Ok r ≡ x
fitted None x r e = e
fitted (Some f) x r e = let z : ◌≡◌ {A = ℕ} 0 1 = cc in absurd (omega arith)

-- one answer
answer_balance : (s r : Standing) (a : Option (ℕ × Query)) (who : ℕ) (numbers : List ℕ) (left : ℕ) → Ok r ≡ answer_to s a who numbers left → all r ≡ all s
answer_balance s r None who numbers left e = let z : ◌≡◌ {A = ℕ} 0 1 = cc in absurd (omega arith)
answer_balance s r (Some (analyst, q)) who numbers left e =
    let rest : ℕ = get_or s.budgets analyst 0 - cost q in
    let told : Result Standing Flaw = if_left left rest (charged s analyst (cost q)) in
    let paid = if_paid (payment_refusal s.budgets analyst (cost q)) told in
    let was = was_paid (payment_refusal s.budgets analyst (cost q)) told r (fitted (misfit analyst q who numbers) paid r e) in
    let same : Ok r ≡ Ok (charged s analyst (cost q)) = passed (eqb left rest) (Ok (charged s analyst (cost q))) BudgetLeft r was.1 in
    let is : r ≡ charged s analyst (cost q) = cc in
    ap all is ∙ charged_balance s analyst (cost q) was.0

-- one line
line_balance : (s r : Standing) (line : List ℕ) (o : Outcome) → Ok r ≡ entered s line o → all r ≡ all s
line_balance s r line (answered who numbers left) e = answer_balance s r (query_of_line line) who numbers left e
line_balance s r line edited e = let is : r ≡ s = cc in ap all is
line_balance s r line (refused n k) e = let is : r ≡ s = cc in ap all is

-- all lines
balance_from : (i : ℕ) (s r : Standing) (lines : List (List ℕ)) (os : List Outcome) → Ok r ≡ audited_from i s lines os → all r ≡ all s
unfolding audited_from
balance_from i s r [] [] e = let is : r ≡ s = cc in ap all is
balance_from i s r [] (o ∷ os) e = let z : ◌≡◌ {A = ℕ} 0 1 = cc in absurd (omega arith)
balance_from i s r (line ∷ lines) [] e = let z : ◌≡◌ {A = ℕ} 0 1 = cc in absurd (omega arith)
balance_from i s r (line ∷ lines) (o ∷ os) e = go (λ t h. balance_from (suc i) t r lines os h) (entered s line o) refl e
  where
    -- by what the line leads to
    go : ((t : Standing) → Ok r ≡ audited_from (suc i) t lines os → all r ≡ all t) →
        (x : Result Standing Flaw) → x ≡ entered s line o → Ok r ≡ then_on i x (λ t. audited_from (suc i) t lines os) → all r ≡ all s
    go again (Ok t) is h = again t h ∙ line_balance s t line o is
    go again (Err f) is h = let z : ◌≡◌ {A = ℕ} 0 1 = cc in absurd (omega arith)

-- from the opening on
balances : (budgets : List ℕ) (lines : List (List ℕ)) (os : List Outcome) (s : Standing) → audited budgets lines os ≡ Ok s → all s ≡ total budgets
unfolding audited
balances budgets lines os s e = balance_from 0 (standing budgets 0) s lines os (sym e) ∙ add-zero (total budgets)

-- for the curator's runs
pub kept : Kept
kept =
    record {
      follows = λ write n roll budgets tape. (curator_standing write n roll budgets tape, strategies write n roll budgets tape, refl);
      spends = λ write n roll budgets tape. balances budgets _ _ (curator_standing write n roll budgets tape) (strategies write n roll budgets tape);
      balances = balances;
    }
