use Rattle.std.proofs.Common.{rules, ◌≡◌, ◌∷◌, ◌++◌, ◌∙◌}
use Rattle.query.specs.Asked.{cuts_of}
use Rattle.query.proofs.Lines.{later}
use Rattle.query.proofs.query.reading.read_table.Goals as goal

pub read_predicate-requires : goal.read_predicate-requires
read_predicate-requires c =
    let read = c.in_ok-field.field ∷ c.in_ok-n.n ∷ cuts_of c.in_ok-cuts.cuts in
    let rest = c.in_ok-cuts.rest in
    let size = c.in_ok-cuts.ensures.cuts.2 ∙ c.in_ok-n.ensures.1 ∙ c.in_ok-field.ensures.1 in
    let parts : c.args.rest.bytes.now ≡ read ++ rest.bytes.now = search rules in
    (size ∙ c.requires.0, rw size (later c.args.rest.end c.args.line.now c.args.rest.bytes.now read rest.bytes.now c.requires.0 c.requires.1 parts))
