use Rattle.std.proofs.Common.{rules, ◌≡◌, ◌/◌, ◌++◌, ◌⊎◌, [], ◌∷◌, length, map, arith, ap, ap₂, ◌∙◌, sym, append-nil, length-append, option_map, Some}
use Rattle.std.specs.Slice.Iter.{iter_rest}
use Rattle.std.specs.Simd.{first_chunks}
use Rattle.roll.specs.Lists.{listed}
use Rattle.noise.specs.Release.{released_number}
use Rattle.noise.proofs.Cells.{from_cells, page_cells, cell_more, none_left}
use Rattle.noise.proofs.Turns.{as_four}
use Rattle.noise.proofs.released.all.release_all.Goals as goal

pub loop-count-init : goal.loop-count-init
loop-count-init c =
    let page = c.args.page.now in
    let none : listed c.new-numbers.result ≡ [] = c.new-numbers.ensures in
    let counts : iter_rest c.into_iter-count-iterator.result.a ≡ c.args.counts.now = search rules in
    let cells : iter_rest c.into_iter-count-iterator.result.b ≡ first_chunks 32 (length page / 32) page = search rules in (
      ap (λ l. map released_number l ++ from_cells (iter_rest c.into_iter-count-iterator.result.a) (iter_rest c.into_iter-count-iterator.result.b)) none
          ∙ ap₂ from_cells counts cells
          ∙ page_cells c.args.counts.now page _ (omega arith) (omega arith) (omega arith),
      omega (arith, ap length none, ap length counts),
    )

pub loop-count-preserved : goal.loop-count-preserved
loop-count-preserved c =
    let (first, second) = c.in-Some.ensures.steps in
    let before = listed c.loop-count.numbers in
    let number = c.in_ok-release.field-0 in
    let gave : c.release.result ≡ Some number = search rules in
    let pushed : listed c.push.new.self ≡ before ++ number ∷ [] = search rules in (
      cell_more before (listed c.push.new.self) number pushed first second (as_four _ _ _ (ap (option_map released_number) (sym gave) ∙ c.release.ensures)) c.loop-count.invariant.0,
      omega (arith, ap length pushed, length-append before (number ∷ []), ap length first, c.loop-count.invariant.1),
    )

pub returns : goal.returns
returns c =
    let counts = iter_rest c.loop-count.count-iterator.a in
    let cells = iter_rest c.loop-count.count-iterator.b in
    let ended : (length counts ≡ 0) ⊎ (length cells ≡ 0) = search rules in
    let numbers = map released_number (listed c.loop-count.numbers) in (
      omega arith,
      sym (append-nil numbers)
          ∙ ap (λ l. numbers ++ l) (sym (none_left counts cells ended))
          ∙ c.loop-count.invariant.0,
    )
