-- What a query leads to, by its verdict.
use Rattle.std.proofs.Common.{◌≡◌, ℕ, ◌-◌, ◌<◌, ◌≤◌, List, length, get_or, take, drop, set, Some, None, unwrap_or, Option, sym, refl, ap, ◌∙◌, ⊎_elim, arith, length-set, get_or-set_same}
use Rattle.std.proofs.lemmas.List.{set-get_or, get_or_past}
use Rattle.std.proofs.lemmas.Bool.{cases_lt, cond-true, cond-false, lt-ltb, le-ltb}
use Rattle.roll.specs.Rows.{Row}
use Rattle.query.specs.Query.{Query, cells, cost, counts}
use Rattle.noise.specs.Dial.{Dial}
use Rattle.noise.specs.Release.{all_released}
use Rattle.budget.specs.Budget.{held, pay}
use Rattle.curator.specs.Lines.{Command, ask, reject, edit_unless}
use Rattle.curator.specs.Served.{edit_outcome}
use Rattle.curator.specs.Curator.{Outcome, answered, refused, State, opening, verdict, by_verdict, taken, reply, charge, price, paid, edited_roll, outcome, step, Leads}

-- who pays nothing holds what was held
pay_nothing : (budgets : List ℕ) (analyst : ℕ) → pay budgets analyst 0 ≡ budgets
unfolding pay
pay_nothing budgets analyst =
    let same : get_or budgets analyst 0 - 0 ≡ get_or budgets analyst 0 = omega arith in
    ap (set budgets analyst) same ∙ set-get_or budgets analyst 0

-- what an analyst holds after a payment; nobody holds nothing
pub left_after : (budgets : List ℕ) (analyst units : ℕ) → unwrap_or (held (pay budgets analyst units) analyst) 0 ≡ get_or budgets analyst 0 - units
unfolding pay
left_after budgets analyst units =
    let after : List ℕ = set budgets analyst (get_or budgets analyst 0 - units) in
    let long : length after ≡ length budgets = length-set budgets analyst _ in
    ⊎_elim
    (λ (there : analyst < length budgets).
    let inside : analyst < length after = omega arith in
    ap (λ o. unwrap_or o 0) (cond-true _ _ _ (lt-ltb _ _ inside)) ∙ get_or-set_same budgets analyst _ 0 there)
    (λ (past : length budgets ≤ analyst).
    let outside : length after ≤ analyst = omega arith in
    let nothing : get_or budgets analyst 0 ≡ 0 = get_or_past budgets analyst 0 past in
    ap (λ o. unwrap_or o 0) (cond-false _ _ _ (le-ltb _ _ outside)) ∙ omega arith)
    (cases_lt analyst (length budgets))

module _ (d : Dial) (left : ℕ) (budgets : List ℕ) (analyst : ℕ) (q : Query) where
  -- a refused query is told so
  pub refused_reply :
      (e : ℕ × ℕ) → Some e ≡ verdict d left budgets analyst q → (rows : List Row) (words : List ℕ) →
      refused e.0 e.1 ≡ reply d left budgets (ask analyst q) rows words
  unfolding reply by_verdict
  refused_reply e v rows words = ap (λ x. by_verdict x (answered analyst (all_released d (counts (cells q) rows) words) (get_or budgets analyst 0 - cost q)) refused) v

  -- and costs nothing
  pub refused_paid : (e : ℕ × ℕ) → Some e ≡ verdict d left budgets analyst q → (o : Outcome) → budgets ≡ paid d left budgets (ask analyst q) o
  unfolding paid price by_verdict
  refused_paid e v o = sym (ap (λ x. pay budgets analyst (by_verdict x (charge q o) (λ n k. 0))) (sym v) ∙ pay_nothing budgets analyst)

  -- a granted query is answered
  pub granted_reply :
      None ≡ verdict d left budgets analyst q → (rows : List Row) (words : List ℕ) →
      answered analyst (all_released d (counts (cells q) rows) words) (get_or budgets analyst 0 - cost q) ≡ reply d left budgets (ask analyst q) rows words
  unfolding reply by_verdict
  granted_reply v rows words = ap (λ x. by_verdict x (answered analyst (all_released d (counts (cells q) rows) words) (get_or budgets analyst 0 - cost q)) refused) v

  -- and paid
  pub granted_paid :
      None ≡ verdict d left budgets analyst q → (a u : ℕ) (xs : List ℕ) → pay budgets analyst (cost q) ≡ paid d left budgets (ask analyst q) (answered a xs u)
  unfolding paid price by_verdict charge
  granted_paid v a u xs = ap (λ x. pay budgets analyst (by_verdict x (cost q) (λ n k. 0))) v

-- a state by its three parts
pub same_state : {s t : State} → s.roll ≡ t.roll → s.budgets ≡ t.budgets → s.tape ≡ t.tape → s ≡ t
same_state {s} {t} r b w = ap (λ x. opening x s.budgets s.tape) r ∙ ap (λ x. opening t.roll x s.tape) b ∙ ap (opening t.roll t.budgets) w

module _ {d : Dial} {s t : State} where
  -- a query that is refused: its page is taken all the same
  pub refused_turn :
      {analyst n k : ℕ} {q : Query} → Some (n, k) ≡ verdict d (length s.tape) s.budgets analyst q →
      t.roll ≡ s.roll → t.budgets ≡ s.budgets → t.tape ≡ drop (taken d (length s.tape) (ask analyst q)) s.tape →
      Leads d s (ask analyst q) (refused n k) t
  unfolding outcome step edited_roll
  refused_turn {analyst} {n} {k} {q} v r b w =
      record {
        outcome_is = refused_reply d (length s.tape) s.budgets analyst q (n, k) v s.roll _;
        state_is = same_state r (b ∙ refused_paid d (length s.tape) s.budgets analyst q (n, k) v (refused n k)) w;
      }

  -- a query that is answered: the numbers are released from its page, and it is paid
  pub answered_turn :
      {analyst left : ℕ} {q : Query} {page numbers : List ℕ} → None ≡ verdict d (length s.tape) s.budgets analyst q →
      page ≡ take (taken d (length s.tape) (ask analyst q)) s.tape → numbers ≡ all_released d (counts (cells q) s.roll) page → left ≡ unwrap_or (held t.budgets analyst) 0 →
      t.roll ≡ s.roll → t.budgets ≡ pay s.budgets analyst (cost q) → t.tape ≡ drop (taken d (length s.tape) (ask analyst q)) s.tape →
      Leads d s (ask analyst q) (answered analyst numbers left) t
  unfolding outcome step edited_roll
  answered_turn {analyst} {left} {q} {page} {numbers} v p n l r b w =
      let released = n ∙ ap (all_released d (counts (cells q) s.roll)) p in
      let holds = l ∙ ap (λ x. unwrap_or (held x analyst) 0) b ∙ left_after s.budgets analyst (cost q) in
      record {
        outcome_is =
            ap (answered analyst numbers) holds ∙ ap (λ x. answered analyst x (get_or s.budgets analyst 0 - cost q)) released
            ∙ granted_reply d (length s.tape) s.budgets analyst q v s.roll _;
        state_is = same_state r (b ∙ granted_paid d (length s.tape) s.budgets analyst q v analyst left numbers) w;
      }

  -- a line that is refused as it is read changes nothing
  pub rejected_line : {n k : ℕ} → t ≡ s → Leads d s (reject n k) (refused n k) t
  unfolding outcome step reply taken paid edited_roll
  rejected_line e = record { outcome_is = refl; state_is = e }

  -- what a line leads to, by the command that it is read as
  pub by_command : {c e : Command} {o : Outcome} → c ≡ e → Leads d s e o t → Leads d s c o t
  by_command same led = rw same led

  -- an edit changes the rows at most, and one that is refused changes nothing
  pub edited_turn :
      {c : Command} {o : Outcome} (e : Option (ℕ × ℕ)) (place : ℕ) (row : Row) → c ≡ edit_unless e place row → o ≡ edit_outcome e →
      t.roll ≡ edited_roll s.roll (edit_unless e place row) → t.budgets ≡ s.budgets → t.tape ≡ s.tape → Leads d s c o t
  unfolding outcome step reply taken paid
  edited_turn None place row same is r b w = rw (same, is) (record { outcome_is = refl; state_is = same_state r b w })
  edited_turn (Some e) place row same is r b w = rw (same, is) (record { outcome_is = refl; state_is = same_state r b w })
