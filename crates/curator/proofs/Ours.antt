-- The promises on whole runs by our dial, with tapes counted in bytes.
use Rattle.std.proofs.Common.{◌≡◌, ℕ, ◌-◌, ◌*◌, ◌/◌, ◌^◌, ◌≤◌, Bool, List, [], length, set, mul-le-mul_left, mul_left_comm, length-set}
use Rattle.roll.specs.Rows.{Row}
use Rattle.weights.specs.Counting.{ways}
use Rattle.noise.specs.Dial.{our_dial}
use Rattle.noise.proofs.Ours.{our_good}
use Rattle.curator.specs.Curator.{Outcome, opening, Strategy, commands, transcript, transcript_of, spent_of, same_transcript}
use Rattle.curator.specs.Statements.{Private, Judged}
use Rattle.curator.proofs.Private.{private_by, judged_by}
use Rattle.curator.proofs.Tapes.{ways_of_bytes}

-- a bound on tapes of words is one on tapes of bytes
by_bytes :
    (a b size : ℕ) (p q : List ℕ → Bool) →
    a * ways (2 ^ 64) (size / 8) p ≤ b * ways (2 ^ 64) (size / 8) q →
    a * (256 ^ (size - 8 * (size / 8)) * ways (2 ^ 64) (size / 8) p) ≤ b * (256 ^ (size - 8 * (size / 8)) * ways (2 ^ 64) (size / 8) q)
by_bytes a b size p q h =
    let c : ℕ = 256 ^ (size - 8 * (size / 8)) in
    rw (mul_left_comm a c (ways (2 ^ 64) (size / 8) p), mul_left_comm b c (ways (2 ^ 64) (size / 8) q)) (mul-le-mul_left c h)

module _ (write wrote : Strategy) (i : ℕ) (roll : List Row) (n : ℕ) (r : Row) (budgets : List ℕ) where
  -- the transcript of the one run, by the words on its tape
  abbrev one : List ℕ → List Outcome
  one words = transcript our_dial (commands (length roll) write) n (opening roll budgets words) []

  -- and of the other, whose roll has as many places
  abbrev two : List ℕ → List Outcome
  two words = transcript our_dial (commands (length roll) wrote) n (opening (set roll i r) budgets words) []

  -- the tapes of the one run that lead to a set of transcripts
  pub one_tapes :
      (size : ℕ) (is : List Outcome → Bool) →
      ways 256 size (λ tape. is (transcript_of write n roll budgets tape))
      ≡ 256 ^ (size - 8 * (size / 8)) * ways (2 ^ 64) (size / 8) (λ words. is (one words))
  unfolding transcript_of
  one_tapes size is = ways_of_bytes size (λ words. is (one words))

  -- and those of the other
  pub two_tapes :
      (size : ℕ) (is : List Outcome → Bool) →
      ways 256 size (λ tape. is (transcript_of wrote n (set roll i r) budgets tape))
      ≡ 256 ^ (size - 8 * (size / 8)) * ways (2 ^ 64) (size / 8) (λ words. is (two words))
  unfolding transcript_of
  two_tapes size is = rw length-set (ways_of_bytes size (λ words. is (two words)))

-- every transcript
pub private : Private
unfolding our_dial spent_of
private write wrote i roll alike n size r budgets t =
    rw (one_tapes write wrote i roll n r budgets size (λ u. same_transcript u t), two_tapes write wrote i roll n r budgets size (λ u. same_transcript u t))
    (by_bytes _ _ size _ _ (private_by our_dial our_good (commands (length roll) write) (commands (length roll) wrote) i alike n (size / 8) roll r budgets t))

-- every judgement
pub judged : Judged
unfolding our_dial
judged write wrote i roll alike n size r budgets judge =
    rw (one_tapes write wrote i roll n r budgets size judge, two_tapes write wrote i roll n r budgets size judge)
    (by_bytes _ _ size _ _ (judged_by our_dial our_good (commands (length roll) write) (commands (length roll) wrote) i alike n (size / 8) roll r budgets judge))
