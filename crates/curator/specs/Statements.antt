-- What the curator promises of whole runs.
use Rattle.std.specs.Prelude.{◌≡◌, ℕ, ◌-◌, ◌*◌, ◌/◌, ◌^◌, ◌<◌, ◌≤◌, Bool, List, [], ◌∷◌, ◌++◌, length, slice_set}
use Rattle.roll.specs.Numbers.{total}
use Rattle.roll.specs.Rows.{Row}
use Rattle.weights.specs.Counting.{ways}
use Rattle.noise.specs.Dial.{Dial, our_dial}
use Rattle.curator.specs.Curator.{Outcome, answered, edited, refused, taken, opening, Strategy, Commands, commands, transcript, transcript_of, spent, spent_of, same_transcript, Alike}

-- two strategies that write the same lines for a roll of so many places, but for edits of place i that are taken, whose rows may differ
abbrev pub AlikeBut : ℕ → ℕ → Strategy → Strategy → Type 0
AlikeBut i places write wrote = (sofar : List Outcome) → Alike i (commands places write sofar) (commands places wrote sofar)

-- two runs of n lines that are alike but for the row of place i, in the opening and in any edits. Whatever the writers of lines do with the outcomes,
-- and for every transcript t, the tapes of `size` bytes that lead to t in the one run are at most (5/4)^s times those in the other, s the units spent on the way
abbrev pub Private : Type 0
Private =
    (write wrote : Strategy) (i : ℕ) (roll : List Row) → AlikeBut i (length roll) write wrote →
    (n size : ℕ) (r : Row) (budgets : List ℕ) (t : List Outcome) →
    4 ^ spent_of write (length roll) size budgets t * ways 256 size (λ tape. same_transcript (transcript_of write n roll budgets tape) t)
    ≤ 5 ^ spent_of write (length roll) size budgets t * ways 256 size (λ tape. same_transcript (transcript_of wrote n (slice_set roll i r) budgets tape) t)

-- what is spent never passes what the budgets held at the opening
abbrev pub Bounded : Type 0
Bounded = (write : Strategy) (places size : ℕ) (budgets : List ℕ) (t : List Outcome) → spent_of write places size budgets t ≤ total budgets

-- and so for every judgement on the transcript: whatever anybody decides from it, it is at most (5/4)^b times likelier, b what the budgets held
abbrev pub Judged : Type 0
Judged =
    (write wrote : Strategy) (i : ℕ) (roll : List Row) → AlikeBut i (length roll) write wrote →
    (n size : ℕ) (r : Row) (budgets : List ℕ) (judge : List Outcome → Bool) →
    4 ^ total budgets * ways 256 size (λ tape. judge (transcript_of write n roll budgets tape))
    ≤ 5 ^ total budgets * ways 256 size (λ tape. judge (transcript_of wrote n (slice_set roll i r) budgets tape))

-- the same two for any commands, any dial, and tapes of that dial's words
abbrev pub PrivateBy : Dial → Type 0
PrivateBy d =
    (next other : Commands) (i : ℕ) → ((sofar : List Outcome) → Alike i (next sofar) (other sofar)) →
    (n m : ℕ) (roll : List Row) (r : Row) (budgets : List ℕ) (t : List Outcome) →
    d.low ^ spent d next m budgets [] t * ways d.words m (λ tape. same_transcript (transcript d next n (opening roll budgets tape) []) t)
    ≤ d.high ^ spent d next m budgets [] t * ways d.words m (λ tape. same_transcript (transcript d other n (opening (slice_set roll i r) budgets tape) []) t)

abbrev pub JudgedBy : Dial → Type 0
JudgedBy d =
    (next other : Commands) (i : ℕ) → ((sofar : List Outcome) → Alike i (next sofar) (other sofar)) →
    (n m : ℕ) (roll : List Row) (r : Row) (budgets : List ℕ) (judge : List Outcome → Bool) →
    d.low ^ total budgets * ways d.words m (λ tape. judge (transcript d next n (opening roll budgets tape) []))
    ≤ d.high ^ total budgets * ways d.words m (λ tape. judge (transcript d other n (opening (slice_set roll i r) budgets tape) []))

-- the number and the place of a refusal; nothing for any other outcome
unfoldable pub refusal : Outcome → List ℕ
refusal (answered a xs u) = []
refusal edited = []
refusal (refused n k) = n ∷ k ∷ []

-- as long as the outcomes so far are the same, a refusal comes in both transcripts or in neither, with the same number and place
abbrev pub RefusedAlike : List Outcome → List Outcome → Type 0
RefusedAlike [] us = Unit {0}
RefusedAlike (o ∷ t) [] = Unit {0}
RefusedAlike (o ∷ t) (p ∷ u) = (refusal o ≡ refusal p) × (o ≡ p → RefusedAlike t u)

-- no row and no word of chance matters to a refusal: any two rolls of as many places, and any two tapes of one length
abbrev pub NoRow : Type 0
NoRow =
    (write wrote : Strategy) (i : ℕ) (roll other : List Row) → length roll ≡ length other → AlikeBut i (length roll) write wrote →
    (n : ℕ) (budgets tape bytes : List ℕ) → length tape ≡ length bytes →
    RefusedAlike (transcript_of write n roll budgets tape) (transcript_of wrote n other budgets bytes)

-- two transcripts t and u of tapes that differ in word k alone, with so many words left and some outcomes so far
pub data OwnWord (d : Dial) (next : Commands) : ℕ → ℕ → List Outcome → List Outcome → List Outcome → Type 0 where
  -- they are the same
  alike : {left k : ℕ} {sofar t : List Outcome} → OwnWord d next left k sofar t t
  -- the word stands behind those that the next line takes: its outcome is the same
  later :
      {left k : ℕ} {sofar t u : List Outcome} {o : Outcome} → taken d left (next sofar) ≤ k →
      OwnWord d next (left - taken d left (next sofar)) (k - taken d left (next sofar)) (sofar ++ (o ∷ [])) t u →
      OwnWord d next left k sofar (o ∷ t) (o ∷ u)
  -- the word stands on the page of the next line: the number of the cell that owns it may be another, and if it is not, all that follows is the same
  here :
      {left k : ℕ} {sofar t u : List Outcome} {a b : ℕ} {xs : List ℕ} (x : ℕ) → k < taken d left (next sofar) →
      (answered a xs b ≡ answered a (slice_set xs (k / d.tries) x) b → t ≡ u) →
      OwnWord d next left k sofar (answered a xs b ∷ t) (answered a (slice_set xs (k / d.tries) x) b ∷ u)

-- a cell's number depends on no word of the tape but its own of that turn's page: replace word k of the tape
abbrev pub OwnWords : Type 0
OwnWords =
    (write : Strategy) (n : ℕ) (roll : List Row) (budgets tape : List ℕ) (k x : ℕ) →
    OwnWord our_dial (commands (length roll) write) (length tape) k []
    (transcript our_dial (commands (length roll) write) n (opening roll budgets tape) [])
    (transcript our_dial (commands (length roll) write) n (opening roll budgets (slice_set tape k x)) [])
