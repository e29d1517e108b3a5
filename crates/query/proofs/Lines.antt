-- How the parts of a query line are read.
use Rattle.std.proofs.Common.{◌≡◌, ℕ, List, ◌∷◌, ◌++◌, length, take, drop, sym, refl, ap, ◌∙◌, arith, ne_eqb}
use Rattle.std.proofs.lemmas.List.{append_assoc, drop_at, length-append, take-append-drop}
use Rattle.roll.specs.Reading.{place_in}
use Rattle.query.specs.declared.query.kind.Kind.{Kind}
use Rattle.query.specs.declared.query.kind.Kind.TheVariants.{Count, Table}
use Rattle.query.specs.Kinds.{kind_byte}
use Rattle.query.specs.Lines.{malformed, query_line}

-- a third byte that is no kind's is refused
pub no_kind : (end b a s : ℕ) (bs : List ℕ) → ((k : Kind) → s ≡ kind_byte k → ⊥) → query_line end (b ∷ a ∷ s ∷ bs) ≡ malformed 10 2
no_kind end b a s bs none = rw (ne_eqb s 1 (none Count), ne_eqb s 2 (none Table)) refl

-- what the end of a line ends with is an end of the line too
pub later : (end : ℕ) (line bs xs ys : List ℕ) → end ≡ length line → drop (place_in end bs) line ≡ bs → bs ≡ xs ++ ys → drop (place_in end ys) line ≡ ys
later end line bs xs ys size e d =
    let before = take (place_in end bs) line in
    let whole : line ≡ (before ++ xs) ++ ys = sym (take-append-drop (place_in end bs) line) ∙ ap (λ l. before ++ l) (e ∙ d) ∙ sym (append_assoc before xs ys) in
    ap (drop (place_in end ys)) whole ∙ drop_at (before ++ xs) ys _ (omega (arith, size, ap length whole, length-append (before ++ xs) ys))
