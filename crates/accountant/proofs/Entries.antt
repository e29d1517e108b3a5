-- One line of the reckoning: who can pay, what is then left, and how many cells a query has.
use Rattle.std.proofs.Common.{◌≡◌, ℕ, ◌+◌, ◌-◌, ◌≤◌, List, length, get_or, Some, None, Ok, Option, Result, unwrap_or, sym, refl, ap, ◌∙◌, arith}
use lib.ListN.{length-map}
use Rattle.std.proofs.lemmas.Bool.Decides.{nat_tests}
use Rattle.roll.specs.Numbers.{total}
use Rattle.roll.specs.Predicates.{Predicate}
use Rattle.roll.specs.Rows.{Row}
use Rattle.query.specs.Query.{Query, cost, counts}
use Rattle.budget.specs.Budget.{held, payment_refusal}
use Rattle.budget.proofs.Payments.{pays}
use Rattle.curator.proofs.Replies.{left_after}
use Rattle.accountant.specs.declared.impossible.Flaw.{Flaw}
use Rattle.accountant.specs.Accountant.{Standing, if_paid, charged, paying, misfit, unless, if_left, after_answer}

-- a payment that is not refused is held
payable : (budgets : List ℕ) (analyst cost : ℕ) → None ≡ payment_refusal budgets analyst cost → cost ≤ get_or budgets analyst 0
payable budgets analyst cost e = grind (arith, nat_tests)

-- what is left and what was spent are together what they were, whoever pays
pub charged_balance :
    (s : Standing) (analyst cost : ℕ) → None ≡ payment_refusal s.budgets analyst cost →
    total (charged s analyst cost).budgets + (charged s analyst cost).spent ≡ total s.budgets + s.spent
charged_balance s analyst cost e = omega (arith, pays s.budgets analyst cost (payable s.budgets analyst cost e))

-- there are as many counts as cells
pub counts_length : (ps : List Predicate) (rows : List Row) → length (counts ps rows) ≡ length ps
unfolding counts
counts_length ps rows = simp length-map

-- whoever is charged could pay
pub was_paid : (e : Option (ℕ × ℕ)) (x : Result Standing Flaw) (r : Standing) → Ok r ≡ if_paid e x → (None ≡ e) × (Ok r ≡ x)
was_paid None x r is = (refl, is)
was_paid (Some e) x r is = let z : ◌≡◌ {A = ℕ} 0 1 = cc in absurd (omega arith)

-- an answer that fits and is paid stands or falls with what it tells to be left
pub by_left :
    (s r : Standing) (analyst : ℕ) (q : Query) (who : ℕ) (numbers : List ℕ) (left : ℕ) → None ≡ misfit analyst q who numbers → Ok r ≡ paying s analyst (cost q) →
    after_answer s analyst q who numbers left ≡ if_left left (unwrap_or (held r.budgets analyst) 0) r
by_left s r analyst q who numbers left fit paid =
    let was = was_paid (payment_refusal s.budgets analyst (cost q)) (Ok (charged s analyst (cost q))) r paid in
    let after : r ≡ charged s analyst (cost q) = cc was.1 in
    let told : Result Standing Flaw = if_left left (get_or s.budgets analyst 0 - cost q) (charged s analyst (cost q)) in
    ap (λ e. unless e (if_paid (payment_refusal s.budgets analyst (cost q)) told)) (sym fit)
    ∙ ap (λ e. if_paid e told) (sym was.0)
    ∙ ap (λ n. if_left left n (charged s analyst (cost q))) (sym (left_after s.budgets analyst (cost q)))
    ∙ ap (λ x. if_left left (unwrap_or (held x.budgets analyst) 0) x) (sym after)
