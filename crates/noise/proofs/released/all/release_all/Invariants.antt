use Rattle.std.proofs.Common.{◌≡◌, ◌+◌, ◌++◌, length, map}
use Rattle.std.specs.Slice.Iter.{iter_rest}
use Rattle.roll.specs.Lists.{listed}
use Rattle.noise.specs.Dial.{our_dial}
use Rattle.noise.specs.Release.{all_released, released_number}
use Rattle.noise.specs.Words.{words_of}
use Rattle.noise.proofs.Cells.{from_cells}
use Rattle.noise.proofs.released.all.release_all.Given as goal

-- the numbers so far and those of the counts and cells that are left are all
abbrev pub invariant-loop-count : goal.invariant-loop-count
invariant-loop-count l =
    (map released_number (listed l.numbers) ++ from_cells (iter_rest l.count-iterator.a) (iter_rest l.count-iterator.b) ≡ all_released our_dial l.counts (words_of l.page))
    × (length (listed l.numbers) + length (iter_rest l.count-iterator.a) ≡ length l.counts)
