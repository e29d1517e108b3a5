-- The text of released numbers, one more at a time.
use Rattle.std.proofs.Common.{◌≡◌, ℕ, ◌+◌, ◌<◌, List, [], ◌∷◌, ◌++◌, length, get_or, map, take, codes, sym, refl, ap, ◌∙◌, append_assoc, append-nil}
use Rattle.std.specs.declared.fmt.Formatter.{Formatter}
use Rattle.std.specs.Fmt.{HasWritten}
use Rattle.std.proofs.Output.{has_written_of_eq, has_written_append}
use Rattle.std.proofs.lemmas.List.{map_more}
use Rattle.bulletin.specs.declared.printed.Printed.{Printed}
use Rattle.bulletin.specs.Printed.{printed, printed_text}
use Rattle.bulletin.specs.Lines.{numbers_text}

-- the text of two lists of numbers is that of the one before that of the other
numbers_append : (p : ℕ) (ms ns : List ℕ) → numbers_text p (ms ++ ns) ≡ numbers_text p ms ++ numbers_text p ns
numbers_append p [] ns = refl
numbers_append p (m ∷ ms) ns =
    ap (λ l. codes " " ++ (printed_text (printed p m) ++ l)) (numbers_append p ms ns)
    ∙ ap (λ l. codes " " ++ l) (sym (append_assoc (printed_text (printed p m)) (numbers_text p ms) (numbers_text p ns)))

-- the text of what was released, by the number that each value stands for
abbrev pub released_text : {X : Type 0} → (X → ℕ) → ℕ → List X → List ℕ
released_text number p rs = numbers_text p (map number rs)

-- the text of one more
released_more :
    {X : Type 0} (number : X → ℕ) (p : ℕ) (rs : List X) (i : ℕ) (x : X) → i < length rs → x ≡ get_or rs i x →
    released_text number p (take (i + 1) rs) ≡ released_text number p (take i rs) ++ (codes " " ++ printed_text (printed p (number x)))
released_more number p rs i x h is =
    ap (numbers_text p) (map_more number rs i x h)
    ∙ numbers_append p (map number (take i rs)) (number (get_or rs i x) ∷ [])
    ∙ ap (λ l. released_text number p (take i rs) ++ (codes " " ++ l)) (append-nil (printed_text (printed p (number (get_or rs i x)))))
    ∙ ap (λ y. released_text number p (take i rs) ++ (codes " " ++ printed_text (printed p (number y)))) (sym is)

-- some are written, then a space and what is printed for the next: so are those with that one
pub put_number :
    {W X : Type 0} (took : W → List ℕ → W → Type 0) (f g h : Formatter W) (number : X → ℕ) (p : ℕ) (rs : List X) (i : ℕ) (x : X) (next : Printed) →
    i < length rs → x ≡ get_or rs i x → next ≡ printed p (number x) →
    HasWritten took f (released_text number p (take i rs)) g → HasWritten took g (codes " " ++ printed_text next) h →
    HasWritten took f (released_text number p (take (i + 1) rs)) h
put_number took f g h number p rs i x next l here is before one =
    has_written_of_eq took f _ _ h
    (ap (λ r. released_text number p (take i rs) ++ (codes " " ++ printed_text r)) is ∙ sym (released_more number p rs i x l here))
    (has_written_append took f _ g _ h before one)
