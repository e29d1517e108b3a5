use Rattle.std.proofs.Common.{◌&&◌, ap, ◌∙◌}
use Rattle.roll.specs.Predicates.{counted, passes}
use Rattle.roll.specs.Stored.{predicate_of}
use Rattle.roll.proofs.predicate.Predicate.counts.Goals as goal

pub returns-then-is_household : goal.returns-then-is_household
unfolding counted
returns-then-is_household c =
    c.passes.ensures
    ∙ ap (λ v. v && passes (predicate_of c.args.self.now) c.args.row.now) c.if-is_household.ensures

pub returns-else-is_household : goal.returns-else-is_household
unfolding counted
returns-else-is_household c =
    c.if-is_household.false
    ∙ ap (λ v. v && passes (predicate_of c.args.self.now) c.args.row.now) c.if-is_household.ensures
