-- The promises on whole runs, from the bound on each line.
use Rattle.std.proofs.Common.{◌≡◌, ℕ, ◌-◌, ◌*◌, ◌^◌, ◌≤◌, Bool, true, List, [], ◌∷◌, ◌++◌, set, sym, refl, ap, ◌∙◌, le_refl, mul-le-mul_left, mul-one, arith, pow-add}
use native.Mathlib.Nat.{pow-zero, pow-le-pow_left}
use Rattle.roll.specs.Numbers.{one_if, total}
use Rattle.roll.specs.Rows.{Row}
use Rattle.weights.specs.Counting.{ways}
use Rattle.weights.proofs.Lists.{lists_same}
use Rattle.noise.specs.Dial.{Dial, Good}
use Rattle.curator.specs.Machine.{Machine, run, product, tapes, Comparison}
use Rattle.curator.specs.Curator.{Outcome, opening, taken, paid, price, edited_roll, Commands, transcript, spent, same_outcome, same_transcript, Alike, equal}
use Rattle.curator.specs.Statements.{PrivateBy, JudgedBy}
use Rattle.curator.proofs.Machine.{composition_of_sets}
use Rattle.curator.proofs.Lines.{line_bound}
use Rattle.curator.proofs.Runs.{Known, Rolls, answer, machine, transcript_run}
use Rattle.curator.proofs.Same.{outcome_equal, transcript_sound}
use Rattle.curator.proofs.Budgets.{spent_le}

-- what everybody knows before the first line
abbrev start : ℕ → List ℕ → Known
start m budgets = record { left = m; budgets = budgets; sofar = [] }

module _ (d : Dial) (g : Good d) where
  module _ (next other : Commands) (i : ℕ) (alike : (sofar : List Outcome) → Alike i (next sofar) (other sofar)) where
    -- the two runs as one machine
    abbrev M : Machine Outcome Known (Rolls i)
    M = machine d i next other alike

    -- b for each unit that the next line costs
    abbrev factor : ℕ → Known → Outcome → ℕ
    factor b s o = b ^ price d s.left s.budgets (next s.sofar) o

    -- the two runs compared, line by line
    abbrev two_runs : Comparison Outcome Known (Rolls i)
    two_runs = record {
      machine = M;
      same = same_outcome;
      equal = outcome_equal;
      m = d.words;
      one = answer d next (λ h. h.first);
      two = answer d other (λ h. h.second);
      low = factor d.low;
      high = factor d.high;
      bounds = λ s h o. line_bound d g i h.first h.second h.differ (alike s.sofar) s.left s.budgets o;
    }

    -- the factors, multiplied along a transcript, are a power of the units spent
    product_spent :
        (b left : ℕ) (budgets : List ℕ) (sofar t : List Outcome) →
        product M (factor b) (record { left = left; budgets = budgets; sofar = sofar }) t ≡ b ^ spent d next left budgets sofar t
    unfolding spent
    product_spent b left budgets sofar [] = sym (pow-zero b)
    product_spent b left budgets sofar (o ∷ t) =
        rw (pow-add, product_spent b (left - taken d left (next sofar)) (paid d left budgets (next sofar) o) (sofar ++ (o ∷ [])) t)

    -- the tapes on which a run with one of the two rolls ends in a given set of transcripts
    ways_run :
        (mine : Commands) → ((sofar : List Outcome) → Alike i (next sofar) (mine sofar)) →
        (side : Rolls i → List Row) → ((s : Known) (o : Outcome) (h : Rolls i) → side (M.move s o h) ≡ edited_roll (side h) (mine s.sofar)) →
        (n m : ℕ) (h : Rolls i) (budgets : List ℕ) (is : List Outcome → Bool) →
        ways d.words m (λ tape. is (transcript d mine n (opening (side h) budgets tape) []))
        ≡ tapes M d.words (answer d mine side) n (start m budgets) h is
    ways_run mine near side moves n m h budgets is =
        lists_same d.words m
        (λ tape e.
        ap (λ t. one_if (is t))
        (transcript_run d i next other alike mine near side moves n h budgets tape []
        ∙ ap (λ l. run M (answer d mine side) n (start l budgets) h tape) e))

    module _ (n m : ℕ) (roll : List Row) (r : Row) (budgets : List ℕ) where
      -- the two rolls at the opening
      rolls : Rolls i
      rolls = record { first = roll; second = set roll i r; differ = (r, refl) }

      -- any set of transcripts, by the units spent on the way to them
      runs :
          (is : List Outcome → Bool) (scale : List Outcome → ℕ) (l u : ℕ) →
          ((t : List Outcome) → is t ≡ true → l ≤ d.low ^ spent d next m budgets [] t * scale t) →
          ((t : List Outcome) → is t ≡ true → d.high ^ spent d next m budgets [] t * scale t ≤ u) →
          l * ways d.words m (λ tape. is (transcript d next n (opening roll budgets tape) []))
          ≤ u * ways d.words m (λ tape. is (transcript d other n (opening (set roll i r) budgets tape) []))
      unfolding rolls
      runs is scale l u above under =
          rw (
            ways_run next (λ sofar. equal) (λ h. h.first) (λ s o h. refl) n m rolls budgets is,
            ways_run other alike (λ h. h.second) (λ s o h. refl) n m rolls budgets is,
          )
          (composition_of_sets Outcome Known (Rolls i) two_runs
          n (start m budgets) rolls is scale l u
          (λ t e. rw (product_spent d.low m budgets [] t) (above t e)) (λ t e. rw (product_spent d.high m budgets [] t) (under t e)))

  -- the set of one transcript
  pub private_by : PrivateBy d
  private_by next other i alike n m roll r budgets t =
      runs next other i alike n m roll r budgets (λ u. same_transcript u t) (λ u. 1) _ _
      (λ u e. rw (mul-one, transcript_sound u t e) (le_refl _)) (λ u e. rw (mul-one, transcript_sound u t e) (le_refl _))

  -- any set, with what is left unspent made up for
  pub judged_by : JudgedBy d
  judged_by next other i alike n m roll r budgets judge =
      runs next other i alike n m roll r budgets judge (λ t. d.low ^ unspent t) (d.low ^ total budgets) (d.high ^ total budgets)
      (λ t e. rw (whole d.low t) (le_refl _))
      (λ t e. rw (← whole d.high t) (mul-le-mul_left _ (pow-le-pow_left g.rising (unspent t))))
    where
      -- the units spent
      used : List Outcome → ℕ
      used t = spent d next m budgets [] t

      -- and those that are left
      unspent : List Outcome → ℕ
      unspent t = total budgets - used t

      -- together they are what the budgets held
      whole : (b : ℕ) (t : List Outcome) → b ^ used t * b ^ unspent t ≡ b ^ total budgets
      whole b t = sym (pow-add b (used t) (unspent t)) ∙ ap (λ k. b ^ k) (omega (arith, spent_le d next m budgets [] t))
