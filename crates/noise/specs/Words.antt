-- Words read from bytes, eight at a time, low byte first.
use Rattle.std.specs.Prelude.{ℕ, zero, suc, ◌+◌, ◌*◌, ◌/◌, List, [], ◌∷◌, length, take, drop}

-- the number that some bytes spell, low byte first
unfoldable pub word_of : List ℕ → ℕ
word_of [] = 0
word_of (b ∷ bs) = b + 256 * word_of bs

-- the first n words
unfoldable pub first_words : ℕ → List ℕ → List ℕ
first_words zero bytes = []
first_words (suc n) bytes = word_of (take 8 bytes) ∷ first_words n (drop 8 bytes)

-- all whole words
unfoldable pub words_of : List ℕ → List ℕ
words_of bytes = first_words (length bytes / 8) bytes
