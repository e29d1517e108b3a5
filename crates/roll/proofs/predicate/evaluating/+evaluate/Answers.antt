use Rattle.std.proofs.Common.{◌∷◌, length, ap, ◌∙◌, subst, ltb, arith}
use Rattle.roll.specs.Predicates.{Predicate}
use Rattle.roll.specs.Tokens.{Codes}
use Rattle.roll.proofs.Sized.{Halves, Inverted, compares, halves, then_passes, else_passes, inverted, not_passes}
use Rattle.roll.proofs.predicate.evaluating.+evaluate.Goals as goal
use Rattle.roll.proofs.predicate.evaluating.+evaluate.Goals.{In-Below, In-Both, In-Negated}

-- the predicate, by the first of its tokens
pair : (t : _) (c : In-Both t) (p : Predicate) → Codes c.args.tokens.now p → Halves c.in-Both.first c.in-Some.rest.now p
pair t c p codes =
    halves _ _ p (subst (λ l. Codes l p) (c.in-Some.ensures.cases.0 ∙ ap (λ x. x ∷ c.in-Some.rest.now) c.in-Both.is) codes)

opposite : (t : _) (c : In-Negated t) (p : Predicate) → Codes c.args.tokens.now p → Inverted c.in-Some.rest.now p
opposite t c p codes =
    inverted _ p (subst (λ l. Codes l p) (c.in-Some.ensures.cases.0 ∙ ap (λ x. x ∷ c.in-Some.rest.now) c.in-Negated.is) codes)

pub evaluate-requires : goal.evaluate-requires
evaluate-requires t c =
    let h = pair t (goal.at.evaluate-requires t c).In-Both c.requires.predicate c.requires.codes in
    (omega (arith, ap length c.in-Some.ensures.cases.0, h.within), record { predicate = h.first; codes = rw (c.split_at.ensures.front, c.from.ensures) h.firsts })

pub evaluate-requires-then-evaluate : goal.evaluate-requires-then-evaluate
evaluate-requires-then-evaluate t c =
    let h = pair t (goal.at.evaluate-requires-then-evaluate t c).In-Both c.requires.predicate c.requires.codes in
    (omega (arith, ap length c.in-Some.ensures.cases.0, h.within), record { predicate = h.second; codes = rw (c.split_at.ensures.back, c.from.ensures) h.seconds })

pub evaluate-requires-in-Negated : goal.evaluate-requires-in-Negated
evaluate-requires-in-Negated t c =
    let h = opposite t (goal.at.evaluate-requires-in-Negated t c).In-Negated c.requires.predicate c.requires.codes in
    (omega (arith, ap length c.in-Some.ensures.cases.0), record { predicate = h.inner; codes = h.inners })

pub returns-in-Below : goal.returns-in-Below
returns-in-Below t c p codes =
    ap (λ v. ltb v c.in-Below.bound) c.value.ensures
    ∙ compares _ _ _ p c.args.row.now (subst (λ l. Codes l p) (c.in-Some.ensures.cases.0 ∙ ap (λ x. x ∷ c.in-Some.rest.now) c.in-Below.is) codes)

pub returns-then-evaluate : goal.returns-then-evaluate
returns-then-evaluate t c p codes =
    let h = pair t (goal.at.returns-then-evaluate t c).In-Both p codes in
    then_passes _ _ p c.args.row.now _ _ h c.if-evaluate.true (c.evaluate.ensures h.first (rw (c.split_at.ensures.front, c.from.ensures) h.firsts)) (c.evaluate-then-evaluate.ensures h.second (rw (c.split_at.ensures.back, c.from.ensures) h.seconds))

pub returns-else-evaluate : goal.returns-else-evaluate
returns-else-evaluate t c p codes =
    let h = pair t (goal.at.returns-else-evaluate t c).In-Both p codes in
    else_passes _ _ p c.args.row.now _ h c.if-evaluate.false (c.evaluate.ensures h.first (rw (c.split_at.ensures.front, c.from.ensures) h.firsts))

pub returns-in-Negated : goal.returns-in-Negated
returns-in-Negated t c p codes =
    let h = opposite t (goal.at.returns-in-Negated t c).In-Negated p codes in
    not_passes _ p c.args.row.now _ h (c.evaluate-in-Negated.ensures h.inner h.inners)
