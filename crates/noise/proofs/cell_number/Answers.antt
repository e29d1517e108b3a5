use Rattle.std.proofs.Common.{◌≡◌, ◌/◌, length, ap, ◌∙◌, rules, map, arith, subst}
use Rattle.std.specs.Iterator.Runs.{ItemsMapTo}
use Rattle.std.specs.Slice.Iter.{iter_rest}
use Rattle.std.specs.Simd.{first_chunks}
use Rattle.noise.specs.Dial.{our_dial}
use Rattle.noise.specs.Release.{released}
use Rattle.noise.specs.Words.{first_words, word_of}
use Rattle.noise.proofs.Finding.{found, found_number, words_chunks, Found}
use Rattle.noise.proofs.cell_number.Goals as goal

pub returns : goal.returns
returns c =
    let bytes = c.args.bytes.now in
    let words = c.as_chunks.result.0.now in
    let front : words ≡ first_chunks 8 (length bytes / 8) bytes = c.as_chunks.ensures.front in
    let all : map word_of words ≡ first_words 4 bytes = ap (map word_of) front ∙ words_chunks 4 _ bytes (omega arith) in
    let (run, from, first) = c.find_map.ensures.runs in
    let reads : ItemsMapTo run (λ y. y.now) words = subst (ItemsMapTo run (λ y. y.now)) (ap iter_rest from ∙ c.iter.ensures.rest) (c.iter.ensures.runs run run.seen) in
    let drew : Found c.args.count c.find_map.result words = found _ _ c.args.count (λ x a q k. search rules) run words reads _ first in
    found_number c.args.count c.find_map.result words drew ∙ ap (released our_dial c.args.count) all
