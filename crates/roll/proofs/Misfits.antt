-- The first row that is neither empty nor a household.
use Rattle.std.proofs.Common.{◌≡◌, ℕ, zero, suc, ◌+◌, ◌<◌, ◌≤◌, List, [], ◌∷◌, length, get_or, Some, None, Option, refl, ap, ◌∙◌, arith, MatchOption}
use Rattle.std.specs.List.{AllWithin, HoldsAt}
use Rattle.std.proofs.lemmas.Bool.{cond-true, cond-false, lt-ltb, le-ltb}
use Rattle.roll.specs.Rows.{Row, misfit}

-- a row that is neither empty nor a household
abbrev pub Misfit : Row → Type 0
Misfit row = 1 < get_or row 0 0

-- a row that is empty or a household
abbrev pub Fits : Row → Type 0
Fits row = get_or row 0 0 ≤ 1

-- the first misfit is found at its place
found : (i : ℕ) (rows : List Row) (at : ℕ) → at < length rows → HoldsAt Misfit rows at → AllWithin Fits rows 0 at → misfit i rows ≡ Some (2, i + at)
unfolding misfit
found i [] at h m fit = absurd (omega arith)
found i (r ∷ rs) zero h m fit = cond-true _ _ _ (lt-ltb _ _ (m [])) ∙ ap (λ n. Some (2, n)) (omega arith)
found i (r ∷ rs) (suc at) h m fit =
    cond-false _ _ _ (le-ltb _ _ (fit 0 [] (omega arith) (omega arith)))
    ∙ found (i + 1) rs at (omega arith) (λ d. m d) (λ k d low high. fit (suc k) d (omega arith) (omega arith))
    ∙ ap (λ n. Some (2, n)) (omega arith)

-- where each row fits, none is found
none_found : (i : ℕ) (rows : List Row) → AllWithin Fits rows 0 (length rows) → misfit i rows ≡ None
unfolding misfit
none_found i [] fit = refl
none_found i (r ∷ rs) fit =
    cond-false _ _ _ (le-ltb _ _ (fit 0 [] (omega arith) (omega arith)))
    ∙ none_found (i + 1) rs (λ k d low high. fit (suc k) d (omega arith) (omega arith))

-- what a search for the first misfit tells
pub first_misfit : (rows : List Row) (r : Option ℕ) → MatchOption r (AllWithin Fits rows 0 (length rows)) (λ i. (i < length rows) × HoldsAt Misfit rows i × AllWithin Fits rows 0 i) → MatchOption r (misfit 0 rows ≡ None) (λ i. misfit 0 rows ≡ Some (2, i))
first_misfit rows (Some i) h = found 0 rows i h.0 h.1 h.2 ∙ ap (λ n. Some (2, n)) (omega arith)
first_misfit rows None h = none_found 0 rows h
