use Rattle.std.proofs.Common.{◌++◌, length, take, sym, ap, ◌∙◌, arith}
use Rattle.std.proofs.lemmas.List.{take_at}
use Rattle.roll.specs.Lists.{listed}
use Rattle.query.specs.Lines.{rises}
use Rattle.query.proofs.Rising.{all_risen}
use Rattle.query.proofs.cuts.Cuts.read.Goals as goal

pub invariant_of-result : goal.invariant_of-result
invariant_of-result c =
    let read = c.in_ok-rest.ensures.cuts in
    let none = ap length c.new-cuts.ensures in
    let risen = all_risen c.args.rest.end 0 c.args.n c.args.rest.bytes.now c.in_ok-rest.ensures.check in
    record { some = omega (arith, c.requires.some); rising = ap (rises 0) (sym (take_at (listed c.scan.new.cuts) c.in_ok-rest.rest.bytes.now c.args.n (omega arith)) ∙ ap (take c.args.n) (read.1 ∙ ap (λ l. l ++ c.args.rest.bytes.now) c.new-cuts.ensures)) ∙ risen.1 }
