use Rattle.std.proofs.Common.{ap, ◌∙◌, lit<}
use Rattle.weights.specs.Ring.{decay, stretch}
use Rattle.weights.proofs.Links.{rule_holds, table_is}
use Rattle.weights.proofs.table.decaying.Goals as goal

pub returns : goal.returns
returns c =
    let passed = c.entries.ensures in
    record {
      table = table_is 4 5 _ passed.first passed.rule ∙ ap (stretch (decay 4 5) 0) passed.size;
      rule = rule_holds 4 5 _ (lit< tt) passed.first passed.rule passed.near;
      last = passed.last;
    }
