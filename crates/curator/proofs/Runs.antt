-- Two runs of the curator that are alike but for the row of place i, as one machine that answers by the one roll or by the other.
use Rattle.std.proofs.Common.{◌≡◌, ℕ, zero, suc, ◌-◌, List, [], ◌∷◌, ◌++◌, length, take, drop, refl, ap, length-drop}
use Rattle.roll.specs.Rows.{Row}
use Rattle.noise.specs.Dial.{Dial}
use Rattle.curator.specs.Machine.{Machine, run}
use Rattle.curator.specs.Curator.{Outcome, opening, taken, reply, paid, edited_roll, outcome, step, Commands, transcript, Alike}
use Rattle.curator.proofs.Lines.{Differ, taken_le, taken_alike, paid_alike, differ_kept}

-- what everybody knows before a line
pub record Known : Type 0 where
  pub left : ℕ
  pub budgets : List ℕ
  pub sofar : List Outcome

-- the rolls of two runs
pub record Rolls (i : ℕ) : Type 0 where
  pub first : List Row
  pub second : List Row
  pub differ : Differ i first second

module _ (d : Dial) where
  -- the outcome of the next line, by one of the two rolls
  abbrev pub answer : {i : ℕ} → Commands → (Rolls i → List Row) → Known → Rolls i → List ℕ → Outcome
  answer next side s h xs = reply d s.left s.budgets (next s.sofar) (side h) xs

  module _ (i : ℕ) (next other : Commands) (alike : (sofar : List Outcome) → Alike i (next sofar) (other sofar)) where
    -- the public part follows the lines of the one run, which those of the other share
    abbrev pub machine : Machine Outcome Known (Rolls i)
    machine = record {
      left = λ s. s.left;
      words = λ s. taken d s.left (next s.sofar);
      next = λ s o.
          record {
            left = s.left - taken d s.left (next s.sofar);
            budgets = paid d s.left s.budgets (next s.sofar) o;
            sofar = s.sofar ++ (o ∷ []);
          };
      move = λ s o h.
          record {
            first = edited_roll h.first (next s.sofar);
            second = edited_roll h.second (other s.sofar);
            differ = differ_kept i (alike s.sofar) h.first h.second h.differ;
          };
      fits = λ s. taken_le d s.left (next s.sofar);
      rest = λ s o. refl;
    }

    -- the curator's transcript is the machine's
    pub transcript_run :
        (mine : Commands) → ((sofar : List Outcome) → Alike i (next sofar) (mine sofar)) →
        (side : Rolls i → List Row) → ((s : Known) (o : Outcome) (h : Rolls i) → side (machine.move s o h) ≡ edited_roll (side h) (mine s.sofar)) →
        (n : ℕ) (h : Rolls i) (budgets tape : List ℕ) (sofar : List Outcome) →
        transcript d mine n (opening (side h) budgets tape) sofar
        ≡ run machine (answer mine side) n (record { left = length tape; budgets = budgets; sofar = sofar }) h tape
    unfolding transcript outcome step
    transcript_run mine near side moves zero h budgets tape sofar = refl
    transcript_run mine near side moves (suc n) h budgets tape sofar =
        let k : ℕ = taken d (length tape) (next sofar) in
        let s : Known = record { left = length tape; budgets = budgets; sofar = sofar } in
        let o : Outcome = answer mine side s h (take k tape) in
        rw (
          taken_alike d i (near sofar) (length tape),
          paid_alike d i (near sofar) (length tape) budgets o,
          ← length-drop k tape,
          ← moves s o h,
        )
        (ap (λ t. o ∷ t) (transcript_run mine near side moves n (machine.move s o h) (paid d (length tape) budgets (next sofar) o) (drop k tape) _))
