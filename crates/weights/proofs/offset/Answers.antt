use Rattle.std.proofs.Common.{◌≡◌, ℕ, ◌-◌, ◌<◌, List, take, drop, Some, Result, ap, ◌∙◌, arith}
use Rattle.weights.specs.Ring.{walked, decay, stretch, our_offset}
use Rattle.weights.proofs.Places.{falling_weights, rising_weights, falling_part, rising_part, no_draw, falling_place, level_place, rising_place, never_past}
use Rattle.weights.proofs.offset.Goals as goal

pub returns-then-u-ge-TOTAL : goal.returns-then-u-ge-TOTAL
returns-then-u-ge-TOTAL c = no_draw _ (omega arith)

-- what a walk along a part of the table says of the weights of that part
module _ (table : List ℕ) (e : table ≡ stretch (decay 4 5) 0 121) where
  along_falling : (u : ℕ) (r : Result ℕ ℕ) → r ≡ walked (take 120 table) u → r ≡ walked falling_weights u
  along_falling u r h = h ∙ ap (λ ws. walked ws u) (falling_part table e)

  along_rising : (u : ℕ) (r : Result ℕ ℕ) → r ≡ walked (take 119 (drop 1 table)) u → r ≡ walked rising_weights u
  along_rising u r h = h ∙ ap (λ ws. walked ws u) (rising_part table e)

-- the draw falls among the first places
fell : (c : goal.In-Ok) → (c.in-Ok.place < 120) × (Some c.in-Ok.place ≡ our_offset c.args.u)
fell c = falling_place _ (omega arith) _ (along_falling _ c.decaying-table.ensures.table _ _ c.in-Ok.ensures)

pub overflow_cast-result : goal.overflow_cast-result
overflow_cast-result c = omega (arith, (fell c).0)

pub returns-in-Ok : goal.returns-in-Ok
returns-in-Ok c = (fell c).1

pub returns-then-rest-lt-LEVEL_TOTAL : goal.returns-then-rest-lt-LEVEL_TOTAL
returns-then-rest-lt-LEVEL_TOTAL c =
    let past = along_falling _ c.decaying-table.ensures.table _ _ c.in-Err.ensures in
    level_place _ (omega arith) _ past _ (omega arith) (omega arith)

-- the draw falls among the last places
fell_last : (c : goal.In-Ok-walk) → (c.in-Ok-walk.steps < 119) × ((p : ℕ) → p ≡ 65535 - c.in-Ok-walk.steps → Some p ≡ our_offset c.args.u)
fell_last c =
    let is = c.decaying-table.ensures.table in
    let past = along_falling _ is _ _ c.in-Err.ensures in
    rising_place _ (omega arith) _ past (omega arith) _ _ (along_rising _ is _ _ c.in-Ok-walk.ensures) (omega arith)

pub overflow_sub-result-in-Ok-walk : goal.overflow_sub-result-in-Ok-walk
overflow_sub-result-in-Ok-walk c = omega (arith, (fell_last c).0)

pub unreachable-requires : goal.unreachable-requires
unreachable-requires c =
    let is = c.decaying-table.ensures.table in
    let past = along_falling _ is _ _ c.in-Err.ensures in
    never_past _ (omega arith) _ past (omega arith) _ _ (along_rising _ is _ _ c.in-Err-walk.ensures) (omega arith)

pub returns : goal.returns
returns c = (fell_last c).1 _ (omega arith)
