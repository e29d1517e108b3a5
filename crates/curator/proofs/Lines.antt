-- One line of two runs that are alike but for the row of place i: what they share, and the bound on each outcome.
use Rattle.std.proofs.Common.{◌≡◌, ℕ, ◌+◌, ◌-◌, ◌*◌, ◌^◌, ◌≤◌, Bool, true, false, cond, ◌&&◌, eqb, ltb, List, length, get_or, set, Some, None, Option, sym, refl, zero-le, mul-le-mul_right, mul_assoc, mul-le-mul, arith, set-set, pow-add, ltb-false, eqb-true}
use native.Mathlib.Nat.{pow-le-pow_left}
use lib.ListN.{length-map}
use lib.Seq.{set_comm}
use borrow.Author.Tests.{eqb-false}
use Rattle.roll.specs.Numbers.{apart, same}
use Rattle.roll.specs.Rows.{Row}
use Rattle.roll.specs.Predicates.{Predicate}
use Rattle.query.specs.Query.{Query, cells, cost, counts}
use Rattle.query.proofs.Rows.{one_row}
use Rattle.weights.specs.Counting.{ways}
use Rattle.noise.specs.Dial.{Dial, Good}
use Rattle.noise.specs.Release.{all_released}
use Rattle.noise.proofs.Page.{one_question}
use Rattle.curator.specs.Lines.{Command, edit, ask, reject}
use Rattle.curator.specs.Curator.{Outcome, answered, edited, refused, page, verdict, by_verdict, taken, reply, charge, price, paid, edited_roll, same_outcome, Alike, equal, own_edit}

-- a line takes no more words than are left
pub taken_le : (d : Dial) (left : ℕ) (c : Command) → taken d left c ≤ left
unfolding taken
taken_le d left (edit i r) = zero-le
taken_le d left (reject n k) = zero-le
taken_le d left (ask analyst q) = go (ltb left (page d)) refl
  where
    -- by whether a page is left
    go : (b : Bool) → ltb left (page d) ≡ b → cond b 0 (page d) ≤ left
    go true e = zero-le
    go false e = ltb-false left (page d) e

-- the rolls differ at place i at most
abbrev pub Differ : ℕ → List Row → List Row → Type 0
Differ i a b = (r : Row) × (b ≡ set a i r)

module _ (d : Dial) (i : ℕ) where
  -- lines that are alike take as many words
  pub taken_alike : {c e : Command} → Alike i c e → (left : ℕ) → taken d left e ≡ taken d left c
  unfolding taken
  taken_alike equal left = refl
  taken_alike own_edit left = refl

  -- and leave the same budgets
  pub paid_alike : {c e : Command} → Alike i c e → (left : ℕ) (budgets : List ℕ) (o : Outcome) → paid d left budgets e o ≡ paid d left budgets c o
  unfolding paid
  paid_alike equal left budgets o = refl
  paid_alike own_edit left budgets o = refl

-- the same edit of both rolls
differ_edit : (i j : ℕ) (x : Row) (a b : List Row) → Differ i a b → Differ i (set a j x) (set b j x)
differ_edit i j x a b h = go (eqb j i) refl
  where
    -- by whether it is an edit of place i
    go : (t : Bool) → eqb j i ≡ t → Differ i (set a j x) (set b j x)
    go true e = (x, rw (eqb-true j i e, h.1) (simp set-set))
    go false e = (h.0, rw (h.1, set_comm a i j h.0 x (λ p. eqb-false j i e (sym p))))

-- after lines that are alike the rolls still differ at place i at most
pub differ_kept : (i : ℕ) {c e : Command} → Alike i c e → (a b : List Row) → Differ i a b → Differ i (edited_roll a c) (edited_roll b e)
unfolding edited_roll
differ_kept i (equal {c}) a b h = go c
  where
    -- the same line in both runs
    go : (c : Command) → Differ i (edited_roll a c) (edited_roll b c)
    go (edit j x) = differ_edit i j x a b h
    go (reject n k) = h
    go (ask analyst q) = h
differ_kept i (own_edit {r} {s}) a b h = (s, rw h.1 (simp set-set))

-- there are as many counts as cells
counts_length : (ps : List Predicate) (a b : List Row) → length (counts ps a) ≡ length (counts ps b)
unfolding counts
counts_length ps a b = simp length-map

module _ (d : Dial) (g : Good d) where
  -- what does not change with the roll
  no_worse : (k x : ℕ) → d.low ^ k * x ≤ d.high ^ k * x
  no_worse k x = mul-le-mul_right x (pow-le-pow_left g.rising k)

  -- a bound for k units is one for more units
  grow : (k s x y : ℕ) → k ≤ s → d.low ^ k * x ≤ d.high ^ k * y → d.low ^ s * x ≤ d.high ^ s * y
  grow k s x y h b =
      let e : s ≡ (s - k) + k = omega arith in
      rw (e, pow-add d.low (s - k) k, pow-add d.high (s - k) k, mul_assoc (d.low ^ (s - k)) (d.low ^ k) x, mul_assoc (d.high ^ (s - k)) (d.high ^ k) y)
      (mul-le-mul (pow-le-pow_left g.rising (s - k)) b)

  module _ (i : ℕ) (a b : List Row) (differ : Differ i a b) where
    -- the numbers of a query: the pages that lead to them
    numbers_bound :
        (q : Query) (xs : List ℕ) →
        d.low ^ cost q * ways d.words (page d) (λ words. same (all_released d (counts (cells q) a) words) xs)
        ≤ d.high ^ cost q * ways d.words (page d) (λ words. same (all_released d (counts (cells q) b) words) xs)
    numbers_bound q xs =
        let (r, e) = differ in
        let other : List ℕ = counts (cells q) (set a i r) in
        rw e
        (grow (apart (counts (cells q) a) other) (cost q) _ _ (one_row q a i r)
        (one_question d g (page d) (counts (cells q) a) other xs (counts_length (cells q) a (set a i r))))

    -- a granted query of an analyst whose budget then holds `after`: the pages that lead to an outcome
    answer_bound :
        (q : Query) (analyst after : ℕ) (o : Outcome) →
        d.low ^ charge q o * ways d.words (page d) (λ xs. same_outcome (answered analyst (all_released d (counts (cells q) a) xs) after) o)
        ≤ d.high ^ charge q o * ways d.words (page d) (λ xs. same_outcome (answered analyst (all_released d (counts (cells q) b) xs) after) o)
    unfolding same_outcome charge
    answer_bound q analyst after (answered c xs u) = go (eqb analyst c) (eqb after u)
      where
        -- by whether the analyst and what is left are the outcome's
        go : (s t : Bool) →
            d.low ^ cost q * ways d.words (page d) (λ words. s && (t && same (all_released d (counts (cells q) a) words) xs))
            ≤ d.high ^ cost q * ways d.words (page d) (λ words. s && (t && same (all_released d (counts (cells q) b) words) xs))
        go true true = numbers_bound q xs
        go true false = no_worse (cost q) _
        go false t = no_worse (cost q) _
    answer_bound q analyst after edited = no_worse 0 _
    answer_bound q analyst after (refused n k) = no_worse 0 _

    -- the rows of words that lead to an outcome of the line c with one roll, and of the line e with the other
    abbrev LineBound : ℕ → List ℕ → Command → Command → Outcome → Type 0
    LineBound left budgets c e o =
        d.low ^ price d left budgets c o * ways d.words (taken d left c) (λ xs. same_outcome (reply d left budgets c a xs) o)
        ≤ d.high ^ price d left budgets c o * ways d.words (taken d left c) (λ xs. same_outcome (reply d left budgets e b xs) o)

    -- lines that are alike are bounded by their price
    pub line_bound : {c e : Command} → Alike i c e → (left : ℕ) (budgets : List ℕ) (o : Outcome) → LineBound left budgets c e o
    unfolding price taken reply verdict by_verdict
    line_bound own_edit left budgets o = no_worse 0 _
    line_bound (equal {c}) left budgets o = go c
      where
        -- a query, by whether a page is left and by the verdict then
        asked :
            (q : Query) (analyst after : ℕ) (t : Bool) (v : Option (ℕ × ℕ)) →
            d.low ^ by_verdict (cond t (Some (20, 0)) v) (charge q o) (λ n k. 0)
            * ways d.words (cond t 0 (page d)) (λ xs. same_outcome (by_verdict (cond t (Some (20, 0)) v) (answered analyst (all_released d (counts (cells q) a) xs) after) refused) o)
            ≤ d.high ^ by_verdict (cond t (Some (20, 0)) v) (charge q o) (λ n k. 0)
            * ways d.words (cond t 0 (page d)) (λ xs. same_outcome (by_verdict (cond t (Some (20, 0)) v) (answered analyst (all_released d (counts (cells q) b) xs) after) refused) o)
        asked q analyst after true v = no_worse 0 _
        asked q analyst after false None = answer_bound q analyst after o
        asked q analyst after false (Some e) = no_worse 0 _

        -- the same line in both runs
        go : (c : Command) → LineBound left budgets c c o
        go (edit j x) = no_worse 0 _
        go (reject n k) = no_worse 0 _
        go (ask analyst q) = asked q analyst (get_or budgets analyst 0 - cost q) (ltb left (page d)) _
