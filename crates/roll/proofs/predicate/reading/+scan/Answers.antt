use Rattle.std.proofs.Common.{[], ◌∷◌, ◌-◌, length, ap, subst, ◌∙◌, set, refl, arith, length-append, length-set}
use Rattle.roll.specs.declared.predicate.token.Token.TheVariants.{Both}
use Rattle.roll.specs.Lists.{listed}
use Rattle.roll.specs.Tokens.{Next}
use Rattle.roll.proofs.Sized.{many}
use Rattle.roll.proofs.Scans.{scanned_below, scan_negated, scan_both}
use Rattle.roll.proofs.predicate.reading.+scan.Goals as goal

pub scan-requires-in-Both : goal.scan-requires-in-Both
scan-requires-in-Both t c =
    let n = c.in_ok-token.ensures in
    let s = c.in_ok-second-in-Both.ensures in
    omega (arith, n.few, s.few, many s.read s.predicate s.codes, ap length c.replace.ensures.after, length-set (listed c.scan.new.tokens) c.len-place.result, ap length s.added, length-append (listed c.next.new.tokens) s.read, ap length n.added, length-append (listed c.args.tokens.now) (c.in_ok-token.token ∷ []))

pub returns-in-Below : goal.returns-in-Below
returns-in-Below t c =
    scanned_below _ _ _ _ _ _ c.in-Below.field c.in-Below.bound (subst (λ x. Next (listed c.args.tokens.now) (listed c.next.new.tokens) c.args.rest c.args.left x c.in_ok-token.after c.in_ok-token.fewer) c.in-Below.is c.in_ok-token.ensures)

pub returns-in_ok-second-in-Both : goal.returns-in_ok-second-in-Both
returns-in_ok-second-in-Both t c =
    scan_both (listed c.args.tokens.now) (listed c.next.new.tokens) (listed c.scan.new.tokens) (listed c.replace.new.self) (listed c.scan-in-Both.new.tokens) c.args.rest c.in_ok-token.after c.in_ok-second-in-Both.second c.args.left c.in_ok-token.fewer c.in_ok-second-in-Both.least c.in-Both.first (c.in_ok-token.fewer - c.in_ok-second-in-Both.least) c.scan-in-Both.result
    (subst (λ x. Next (listed c.args.tokens.now) (listed c.next.new.tokens) c.args.rest c.args.left x c.in_ok-token.after c.in_ok-token.fewer) c.in-Both.is c.in_ok-token.ensures)
    c.in_ok-second-in-Both.ensures refl (c.replace.ensures.after ∙ ap (λ k. set (listed c.scan.new.tokens) k (Both (c.in_ok-token.fewer - c.in_ok-second-in-Both.least))) c.len-place.ensures) c.scan-in-Both.ensures

pub returns-in-Negated : goal.returns-in-Negated
returns-in-Negated t c =
    scan_negated (listed c.args.tokens.now) (listed c.next.new.tokens) (listed c.scan-in-Negated.new.tokens) c.args.rest c.in_ok-token.after c.args.left c.in_ok-token.fewer c.scan-in-Negated.result
    (subst (λ x. Next (listed c.args.tokens.now) (listed c.next.new.tokens) c.args.rest c.args.left x c.in_ok-token.after c.in_ok-token.fewer) c.in-Negated.is c.in_ok-token.ensures)
    c.scan-in-Negated.ensures
