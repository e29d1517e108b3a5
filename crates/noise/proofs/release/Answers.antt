use Rattle.std.proofs.Common.{ap, ◌∙◌}
use Rattle.noise.specs.Dial.{our_dial}
use Rattle.noise.specs.Release.{released}
use Rattle.noise.specs.Words.{first_words}
use Rattle.noise.proofs.Reading.{words_front}
use Rattle.noise.proofs.Turns.{from_four}
use Rattle.noise.proofs.release.Goals as goal

pub returns : goal.returns
returns c =
    let count = c.args.count in
    let words = c.args.words.now in
    let first = c.in_ok-cell.ensures.cases in
    from_four count words _ first.enough (c.cell_number.ensures ∙ ap (λ l. released our_dial count (first_words 4 l)) first.same ∙ ap (released our_dial count) (words_front 4 words))
