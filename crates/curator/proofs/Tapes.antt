-- Tapes of bytes: the words on them, and how many there are.
use Rattle.std.proofs.Common.{◌≡◌, ℕ, zero, suc, ◌+◌, ◌-◌, ◌*◌, ◌/◌, ◌^◌, ◌≤◌, min, Bool, List, ◌∷◌, length, take, drop, sym, refl, ap, ◌∙◌, arith}
use Rattle.std.proofs.lemmas.List.{take-take, drop-take}
use Rattle.roll.specs.Numbers.{one_if}
use Rattle.weights.specs.Counting.{sum_lists, ways}
use Rattle.weights.proofs.Lists.{lists_same, lists_scale, lists_const, lists_split}
use Rattle.noise.specs.Words.{word_of, first_words, words_of}
use Rattle.noise.proofs.Bytes.{words_bytes}

-- as many words as are asked for
length_first : (n : ℕ) (bytes : List ℕ) → length (first_words n bytes) ≡ n
unfolding first_words
length_first zero bytes = refl
length_first (suc n) bytes = ap suc (length_first n (drop 8 bytes))

-- a word for every eight bytes
pub length_words : (bytes : List ℕ) → length (words_of bytes) ≡ length bytes / 8
unfolding words_of
length_words bytes = length_first (length bytes / 8) bytes

-- the first n words lie in the first 8 n bytes
pub first_words_take : (n : ℕ) (bytes : List ℕ) → first_words n (take (8 * n) bytes) ≡ first_words n bytes
unfolding first_words
first_words_take zero bytes = refl
first_words_take (suc n) bytes =
    let more : 8 * suc n ≡ 8 + 8 * n = omega arith in
    let long : 8 ≤ 8 + 8 * n = omega arith in
    rw (more, take-take 8 (8 + 8 * n) bytes long, drop-take 8 (8 * n) bytes) (ap (λ l. word_of (take 8 bytes) ∷ l) (first_words_take n (drop 8 bytes)))

-- a tape of 8 n bytes and some has n words, and each of those is on as many tapes as there are ways to fill the bytes that are left
pub ways_of_bytes :
    (size : ℕ) (p : List ℕ → Bool) →
    ways 256 size (λ tape. p (words_of tape)) ≡ 256 ^ (size - 8 * (size / 8)) * ways (2 ^ 64) (size / 8) p
unfolding words_of
ways_of_bytes size p =
    let n : ℕ = size / 8 in
    let rest : ℕ = size - 8 * n in
    let f : List ℕ → ℕ = λ xs. one_if (p (first_words n xs)) in
    let inside : min (8 * n) size ≡ 8 * n = omega arith in
    let one_word : 8 * n / 8 ≡ n = omega arith in
    lists_same 256 size
    (λ xs e. ap (λ k. one_if (p (first_words (k / 8) xs))) e ∙ ap (λ ws. one_if (p ws)) (sym (first_words_take n xs)))
    ∙ lists_split 256 (8 * n) size (λ xs ys. f xs)
    ∙ lists_same 256 (min (8 * n) size) (λ xs e. lists_const 256 rest (f xs))
    ∙ lists_scale 256 (min (8 * n) size) (256 ^ rest) f
    ∙ ap (λ k. 256 ^ rest * sum_lists 256 k f) inside
    ∙ ap (λ k. 256 ^ rest * k)
    (lists_same 256 (8 * n) (λ xs e. ap (λ k. one_if (p (first_words k xs))) (sym (ap (λ k. k / 8) e ∙ one_word))) ∙ words_bytes n p)
