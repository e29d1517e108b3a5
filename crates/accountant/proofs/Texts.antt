-- The text of what the analysts hold, one more at a time.
use Rattle.std.proofs.Common.{◌≡◌, ℕ, ◌+◌, ◌<◌, List, [], ◌∷◌, ◌++◌, length, get_or, take, codes, decimal, sym, refl, ap, ◌∙◌, append_assoc, append-nil}
use Rattle.std.proofs.lemmas.List.{take_more}
use Rattle.accountant.specs.Lines.{left_text}

-- the text of two lists of budgets is that of the one before that of the other
left_append : (bs cs : List ℕ) → left_text (bs ++ cs) ≡ left_text bs ++ left_text cs
left_append [] cs = refl
left_append (b ∷ bs) cs =
    ap (λ l. codes " " ++ (decimal b ++ l)) (left_append bs cs) ∙ ap (λ l. codes " " ++ l) (sym (append_assoc (decimal b) (left_text bs) (left_text cs)))

-- the text of one budget more
pub left_more : (bs : List ℕ) (i : ℕ) → i < length bs → left_text (take (i + 1) bs) ≡ left_text (take i bs) ++ (codes " " ++ decimal (get_or bs i 0))
left_more bs i h =
    ap left_text (take_more bs i 0 h)
    ∙ left_append (take i bs) (get_or bs i 0 ∷ [])
    ∙ ap (λ l. left_text (take i bs) ++ (codes " " ++ l)) (append-nil (decimal (get_or bs i 0)))
