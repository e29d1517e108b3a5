-- The numbers of several cells, each from its own bytes of a page.
use Rattle.std.proofs.Common.{◌≡◌, ℕ, zero, suc, ◌*◌, ◌/◌, ◌≤◌, ◌⊎◌, ⊎_elim, List, [], ◌∷◌, ◌++◌, length, map, drop, Option, sym, refl, ap, ◌∙◌, ap₂, append_assoc, arith}
use Rattle.std.proofs.lemmas.List.{map-append}
use Rattle.std.specs.Simd.{first_chunks}
use Rattle.noise.specs.Words.{first_words, words_of}
use Rattle.noise.specs.Dial.{our_dial}
use Rattle.noise.specs.Release.{released, released_number, all_released}
use Rattle.noise.proofs.Reading.{words_drop, words_take, words_front}

-- the numbers for some counts, each from the bytes of one cell
unfoldable pub from_cells : List ℕ → List (List ℕ) → List ℕ
from_cells [] cells = []
from_cells (c ∷ cs) [] = []
from_cells (c ∷ cs) (b ∷ bs) = released our_dial c (first_words 4 b) ∷ from_cells cs bs

-- with cells cut from bytes they are the numbers from the words
cells_of : (cs : List ℕ) (k : ℕ) (bytes : List ℕ) → length cs ≤ k → from_cells cs (first_chunks 32 k bytes) ≡ all_released our_dial cs (first_words (4 * k) bytes)
unfolding from_cells all_released our_dial
cells_of [] k bytes h = refl
cells_of (c ∷ cs) zero bytes h = absurd (omega arith)
cells_of (c ∷ cs) (suc k) bytes h =
    ap₂ (λ ws ns. released our_dial c ws ∷ ns)
    (words_front 4 bytes ∙ sym (words_take 4 (4 * suc k) bytes (omega arith)))
    (cells_of cs k (drop 32 bytes) (omega arith) ∙ ap (all_released our_dial cs) (sym (words_drop 4 (4 * k) (4 * suc k) bytes (omega arith))))

-- a page has 64 cells
pub page_cells : (cs page : List ℕ) (k : ℕ) → length page ≡ 2048 → k ≡ 64 → length cs ≤ 64 → from_cells cs (first_chunks 32 k page) ≡ all_released our_dial cs (words_of page)
unfolding words_of
page_cells cs page k long e h =
    let eighth : 4 * k ≡ length page / 8 = omega arith in
    cells_of cs k page (omega arith) ∙ ap (λ n. all_released our_dial cs (first_words n page)) eighth

-- one cell more: its number is put after those before
pub cell_more :
    (before after : List (Option ℕ)) (n : Option ℕ) {cs ds all : List ℕ} {bs es : List (List ℕ)} {c : ℕ} {b : List ℕ} →
    after ≡ before ++ n ∷ [] → cs ≡ c ∷ ds → bs ≡ b ∷ es → released_number n ≡ released our_dial c (first_words 4 b) →
    map released_number before ++ from_cells cs bs ≡ all → map released_number after ++ from_cells ds es ≡ all
unfolding from_cells
cell_more before after n {cs} {ds} {all} {bs} {es} put first second is so_far =
    ap (λ l. map released_number l ++ from_cells ds es) put
    ∙ ap (λ l. l ++ from_cells ds es) (map-append released_number before (n ∷ []))
    ∙ append_assoc (map released_number before) (released_number n ∷ []) (from_cells ds es)
    ∙ ap (λ x. map released_number before ++ (x ∷ from_cells ds es)) is
    ∙ sym (ap₂ (λ l m. map released_number before ++ from_cells l m) first second)
    ∙ so_far

-- no cell is left, or no count
pub none_left : (cs : List ℕ) (bs : List (List ℕ)) → (length cs ≡ 0) ⊎ (length bs ≡ 0) → from_cells cs bs ≡ []
unfolding from_cells
none_left [] bs e = refl
none_left (c ∷ cs) [] e = refl
none_left (c ∷ cs) (b ∷ bs) e = absurd (⊎_elim (λ (p : length (c ∷ cs) ≡ 0). omega arith) (λ (p : length (b ∷ bs) ≡ 0). omega arith) e)
