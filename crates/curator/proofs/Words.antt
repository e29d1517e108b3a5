-- A cell's number follows from the cell's own words, over whole runs.
use Rattle.std.proofs.Common.{◌≡◌, ℕ, zero, suc, ◌+◌, ◌-◌, ◌/◌, ◌<◌, ◌≤◌, Bool, true, false, cond, ltb, ◌⊎◌, List, [], ◌∷◌, ◌++◌, length, get_or, take, drop, set, Some, None, Option, refl, ap, ◌∙◌, inl, inr, ⊎_elim, arith, length-drop, length-set, drop-set-lt}
use native.Mathlib.Nat.{div-eq_of_lt, div-eq-sub-div}
use lib.Seq.{take-set-le, take-set-lt, drop-set-add}
use Rattle.std.proofs.lemmas.Bool.{cases_lt}
use Rattle.roll.specs.Rows.{Row}
use Rattle.query.specs.Query.{cells, cost, counts}
use Rattle.noise.specs.Dial.{Dial, our_dial}
use Rattle.noise.specs.Release.{released, all_released}
use Rattle.curator.specs.Lines.{Command, edit, ask, reject}
use Rattle.curator.specs.Curator.{Outcome, answered, refused, State, opening, page, verdict, by_verdict, taken, reply, paid, edited_roll, outcome, step, Commands, commands, transcript}
use Rattle.curator.specs.Statements.{OwnWord, alike, later, here, OwnWords}

-- a word behind the first n is one of those that are left
drop_set_ge : (n : ℕ) (xs : List ℕ) (k x : ℕ) → n ≤ k → drop n (set xs k x) ≡ set (drop n xs) (k - n) x
drop_set_ge n xs k x h =
    let e : k ≡ n + (k - n) = omega arith in
    ap (λ j. drop n (set xs j x)) e ∙ drop-set-add n xs (k - n) x

module _ (d : Dial) where
  -- replace one word of a page: the number of the cell that owns it is replaced at most
  released_word :
      0 < d.tries → (cs words : List ℕ) (k x : ℕ) →
      (y : ℕ) × (all_released d cs (set words k x) ≡ set (all_released d cs words) (k / d.tries) y)
  unfolding all_released
  released_word some [] words k x = (0, refl)
  released_word some (c ∷ cs) words k x =
      ⊎_elim
      (λ (own : k < d.tries). (
        released d c (take d.tries (set words k x)),
        rw (drop-set-lt d.tries words k x own, div-eq_of_lt own),
      ))
      (λ (others : d.tries ≤ k).
      let (y, e) = released_word some cs (drop d.tries words) (k - d.tries) x in
      let j : k / d.tries ≡ suc ((k - d.tries) / d.tries) = omega (arith, div-eq-sub-div some others) in (
        y,
        rw (j, take-set-le d.tries words k x others, drop_set_ge d.tries words k x others, e),
      ))
      (cases_lt k d.tries)

  -- two outcomes of a line that are the same, or answers that differ in the number of the cell that owns word k at most
  abbrev ByOne : ℕ → Outcome → Outcome → Type 0
  ByOne k o p = (p ≡ o) ⊎ ((a u : ℕ) × (xs : List ℕ) × (y : ℕ) × (o ≡ answered a xs u) × (p ≡ answered a (set xs (k / d.tries) y) u))

  -- replace one of the words that a line takes
  reply_word :
      (left : ℕ) (budgets : List ℕ) (c : Command) (roll : List Row) (words : List ℕ) (k x : ℕ) → k < taken d left c →
      ByOne k (reply d left budgets c roll words) (reply d left budgets c roll (set words k x))
  unfolding reply taken by_verdict
  reply_word left budgets (edit i r) roll words k x h = inl refl
  reply_word left budgets (reject m j) roll words k x h = inl refl
  reply_word left budgets (ask analyst q) roll words k x h = go (verdict d left budgets analyst q)
    where
      -- the true counts
      cs : List ℕ
      cs = counts (cells q) roll

      -- what the budget then holds
      after : ℕ
      after = get_or budgets analyst 0 - cost q

      -- a line that takes words has words for each cell
      some : (b : Bool) → k < cond b 0 (page d) → 0 < d.tries
      some true l = absurd (omega arith)
      some false l = omega arith

      -- by the verdict
      go : (v : Option (ℕ × ℕ)) →
          ByOne k (by_verdict v (answered analyst (all_released d cs words) after) refused) (by_verdict v (answered analyst (all_released d cs (set words k x)) after) refused)
      go None =
          let (y, e) = released_word (some (ltb left (page d)) h) cs words k x in
          inr (analyst, after, all_released d cs words, y, refl, ap (λ xs. answered analyst xs after) e)
      go (Some e) = inl refl

  module _ (next : Commands) where
    -- the turn whose page holds the word
    turn :
        (left k : ℕ) (sofar : List Outcome) (o p : Outcome) (rest : Outcome → List Outcome) → k < taken d left (next sofar) → ByOne k o p →
        OwnWord d next left k sofar (o ∷ rest o) (p ∷ rest p)
    turn left k sofar o p rest h (inl e) = rw e alike
    turn left k sofar o p rest h (inr (a, u, xs, y, e, f)) = rw (e, f) (here y h (ap rest))

    -- replace one word of the tape
    own_word :
        (n : ℕ) (roll : List Row) (budgets tape : List ℕ) (sofar : List Outcome) (k x : ℕ) →
        OwnWord d next (length tape) k sofar (transcript d next n (opening roll budgets tape) sofar) (transcript d next n (opening roll budgets (set tape k x)) sofar)
    unfolding transcript outcome step
    own_word zero roll budgets tape sofar k x = alike
    own_word (suc n) roll budgets tape sofar k x =
        let c : Command = next sofar in
        let t : ℕ = taken d (length tape) c in
        let state : Outcome → State = λ o. opening (edited_roll roll c) (paid d (length tape) budgets c o) (drop t tape) in
        let o : Outcome = reply d (length tape) budgets c roll (take t tape) in
        rw length-set
        (⊎_elim
        (λ (now : k < t).
        rw (drop-set-lt t tape k x now, take-set-lt t tape k x now)
        (turn (length tape) k sofar _ _
        (λ o. transcript d next n (state o) (sofar ++ (o ∷ [])))
        now (reply_word (length tape) budgets c roll (take t tape) k x now)))
        (λ (after : t ≤ k).
        rw (drop_set_ge t tape k x after, take-set-le t tape k x after)
        (later after (rw (length-drop t tape) at (own_word n (state o).roll (state o).budgets (drop t tape) (sofar ++ (o ∷ [])) (k - t) x))))
        (cases_lt k t))

-- from the opening on
pub own_words : OwnWords
own_words write n roll budgets tape k x = own_word our_dial (commands (length roll) write) n roll budgets tape [] k x
