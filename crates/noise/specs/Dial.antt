-- A dial: all that the noise of one cell depends on, when it is good, and the dial in use.
use Rattle.std.specs.Prelude.{ℕ, ◌*◌, ◌/◌, ◌<◌, ◌≤◌, List, length}
use Rattle.roll.specs.Numbers.{total}
use Rattle.weights.specs.Ring.{our_weights}
use Rattle.weights.specs.Statements.{Near}

-- how many words there are, the weights around the ring, how many words a cell has, and the factor high / low that one step of a count may cost
pub record Dial : Type 0 where
  pub words : ℕ
  pub weights : List ℕ
  pub tries : ℕ
  pub low : ℕ
  pub high : ℕ

-- the number of places of the ring; as a number released it stands for none
abbrev pub ring : Dial → ℕ
ring d = length d.weights

-- words at or above this bound are rejected, so that every draw has as many words
abbrev pub bound : Dial → ℕ
bound d = d.words / total d.weights * total d.weights

-- the ring has places, there are draws, every draw has a word, a factor is no less than 1, and neighbours on the ring have weights within the factor high / low
pub record Good (d : Dial) : Type 0 where
  pub some_place : 0 < ring d
  pub some_draw : 0 < total d.weights
  pub enough : total d.weights ≤ d.words
  pub rising : d.low ≤ d.high
  pub near : Near d.low d.high d.weights

-- words of 64 bits, the ring of 65,536 places that decays by 4/5, four words a cell, and the factor 5/4
unfoldable pub our_dial : Dial
our_dial = record { words = 18446744073709551616; weights = our_weights; tries = 4; low = 4; high = 5 }
