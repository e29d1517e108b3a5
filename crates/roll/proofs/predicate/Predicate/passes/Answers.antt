use Rattle.std.proofs.Common.{sym, subst}
use Rattle.roll.specs.Stored.{predicate_of}
use Rattle.roll.specs.Tokens.{Codes}
use Rattle.roll.proofs.predicate.Predicate.passes.Goals as goal

pub evaluate-requires : goal.evaluate-requires
evaluate-requires c = record { predicate = predicate_of c.args.self.now; codes = subst (λ l. Codes l (predicate_of c.args.self.now)) (sym c.as_slice.ensures) c.args.self.now.sized }
