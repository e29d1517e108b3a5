-- Words read from bytes, one after the other and as parts of a page.
use Rattle.std.proofs.Common.{◌≡◌, ℕ, zero, suc, ◌+◌, ◌-◌, ◌*◌, ◌/◌, ◌≤◌, List, [], ◌∷◌, length, get_or, take, drop, sym, refl, ap, ◌∙◌, ap₂, arith}
use Rattle.std.proofs.lemmas.List.{drop-drop, drop-take, drop_all, take-take}
use Rattle.noise.specs.Words.{word_of, first_words, words_of}

-- one byte of a word, and those above it
word_at : (bytes : List ℕ) (k : ℕ) → word_of (drop k bytes) ≡ get_or bytes k 0 + 256 * word_of (drop (suc k) bytes)
unfolding word_of
word_at [] zero = refl
word_at [] (suc k) = refl
word_at (b ∷ bytes) zero = refl
word_at (b ∷ bytes) (suc k) = word_at bytes k

-- a word of eight bytes, byte by byte
pub eight_bytes :
    (bytes : List ℕ) → length bytes ≡ 8 →
    get_or bytes 0 0 + get_or bytes 1 0 * 256 + get_or bytes 2 0 * 65536 + get_or bytes 3 0 * 16777216 + get_or bytes 4 0 * 4294967296
    + get_or bytes 5 0 * 1099511627776
    + get_or bytes 6 0 * 281474976710656
    + get_or bytes 7 0 * 72057594037927936
    ≡ word_of bytes
unfolding word_of
eight_bytes bytes e =
    let at = word_at bytes in
    let end : word_of (drop 8 bytes) ≡ 0 = ap word_of (drop_all 8 bytes (omega arith)) in
    omega (arith, at 0, at 1, at 2, at 3, at 4, at 5, at 6, at 7)

-- the first word, then the others
words_more : (n k : ℕ) (bytes : List ℕ) → k ≡ suc n → first_words k bytes ≡ word_of (take 8 bytes) ∷ first_words n (drop 8 bytes)
unfolding first_words
words_more n k bytes e = ap (λ j. first_words j bytes) e

-- the first n words are read from 8 n bytes
pub words_front : (n : ℕ) (bytes : List ℕ) → first_words n (take (8 * n) bytes) ≡ first_words n bytes
unfolding first_words
words_front zero bytes = refl
words_front (suc n) bytes =
    ap (λ m. first_words (suc n) (take m bytes)) (omega arith)
    ∙ ap₂ (λ x l. word_of x ∷ first_words n l) (take-take 8 (8 + 8 * n) bytes (omega arith)) (drop-take 8 (8 * n) bytes)
    ∙ ap (λ l. word_of (take 8 bytes) ∷ l) (words_front n (drop 8 bytes))

-- the words from the m-th on lie in the bytes from the 8m-th on
pub words_drop : (m n k : ℕ) (bytes : List ℕ) → k ≡ m + n → drop m (first_words k bytes) ≡ first_words n (drop (8 * m) bytes)
words_drop zero n k bytes e = ap (λ j. first_words j bytes) (omega arith)
words_drop (suc m) n k bytes e =
    ap (drop (suc m)) (words_more (k - 1) k bytes (omega arith))
    ∙ words_drop m n (k - 1) (drop 8 bytes) (omega arith)
    ∙ ap (first_words n) (drop-drop (8 * m) 8 bytes ∙ ap (λ j. drop j bytes) (omega arith))

-- the first m of the first k words
pub words_take : (m k : ℕ) (bytes : List ℕ) → m ≤ k → take m (first_words k bytes) ≡ first_words m bytes
unfolding first_words
words_take zero k bytes h = refl
words_take (suc m) zero bytes h = absurd (omega arith)
words_take (suc m) (suc k) bytes h = ap (λ l. word_of (take 8 bytes) ∷ l) (words_take m k (drop 8 bytes) (omega arith))

-- the m words from the s-th on, as a part of the bytes
pub words_part : (m s : ℕ) (bytes : List ℕ) → 8 * (s + m) ≤ length bytes → first_words m (drop (8 * s) bytes) ≡ take m (drop s (words_of bytes))
unfolding words_of
words_part m s bytes h =
    let whole : ℕ = length bytes / 8 in
    let some : s + m ≤ whole = omega arith in
    sym (ap (take m) (words_drop s (whole - s) whole bytes (omega arith)) ∙ words_take m (whole - s) (drop (8 * s) bytes) (omega arith))
