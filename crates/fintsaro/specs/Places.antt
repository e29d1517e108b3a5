-- How many places the desk serves.
use Rattle.std.specs.Prelude.{◌≡◌, ℕ, ◌≤◌, List, Result, MatchResult}
use Rattle.std.specs.Str.Parse.{IsNumeral, digits_value, without_leading_plus}
use Rattle.fintsaro.specs.declared.places.Places.{Places}
use Rattle.fintsaro.specs.declared.places.NotServed.{NotServed}

-- a number of places that the desk can serve
abbrev pub CanServe : ℕ → Type 0
CanServe n = (1 ≤ n) × (n ≤ 32768)

-- the number is taken as it is, or is none that the desk can serve
abbrev pub IsServed : ℕ → Result Places NotServed → Type 0
IsServed n r = MatchResult r (λ p. p.number ≡ n) (λ _. ¬ (CanServe n))

-- the number that a word's digits spell, after a plus or none
abbrev pub spelled : List ℕ → ℕ
spelled word = digits_value 10 (without_leading_plus word)

-- the word is digits, after a plus or none, and spells a number of places that the desk can serve
abbrev pub Spelled : List ℕ → Type 0
Spelled word = IsNumeral 10 (without_leading_plus word) × CanServe (spelled word)

-- the word spells these places, or none
abbrev pub Spells : List ℕ → Result Places NotServed → Type 0
Spells word r = MatchResult r (λ p. Spelled word × (p.number ≡ spelled word)) (λ _. ¬ (Spelled word))
