-- The numbers released for true counts, from words of chance.
use Rattle.std.specs.Prelude.{ℕ, ◌+◌, ◌%◌, cond, List, [], ◌∷◌, length, take, drop, Some, None, Option, unwrap_or, nat_le, nat_lt}
use Rattle.roll.specs.Numbers.{total}
use Rattle.weights.specs.Ring.{offset_of}
use Rattle.noise.specs.Dial.{Dial, ring, bound, our_dial}
use Rattle.noise.specs.Words.{first_words}

-- the number released for the true count c: the first word that is not rejected draws the offset; with no such word it is the ring's size, for none
unfoldable pub released : Dial → ℕ → List ℕ → ℕ
released d c [] = ring d
released d c (x ∷ xs) = cond (nat_lt x (bound d)) ((c + offset_of d.weights (x % total d.weights)) % ring d) (released d c xs)

-- the number that stands for what is released by our dial: a place of the ring for itself, and the ring's size for none
abbrev pub released_number : Option ℕ → ℕ
released_number r = unwrap_or r 65536

-- the numbers released for the counts of some cells, each from the next words of the page
unfoldable pub all_released : Dial → List ℕ → List ℕ → List ℕ
all_released d [] page = []
all_released d (c ∷ cs) page = released d c (take d.tries page) ∷ all_released d cs (drop d.tries page)

-- the draw of a word by our dial, or none where the word is rejected
abbrev pub our_draw : ℕ → Option ℕ
our_draw x = cond (nat_lt x 18446743461844455030) (Some (x % 9895604911578)) None

-- the number that one word alone releases by our dial for the true count c, or none where the word is rejected
abbrev pub our_number : ℕ → ℕ → Option ℕ
our_number c x = cond (nat_lt x (bound our_dial)) (Some ((c + offset_of our_dial.weights (x % total our_dial.weights)) % ring our_dial)) None

-- the number released by our dial from bytes that start with a cell's four words, or none where they are fewer than four words
abbrev pub our_release : ℕ → List ℕ → Option ℕ
our_release c bytes = cond (nat_le 32 (length bytes)) (Some (released our_dial c (first_words 4 bytes))) None
