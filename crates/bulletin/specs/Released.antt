-- Which place of the ring a number released is.
use Rattle.std.specs.Prelude.{ℕ, cond, Option, Some, None, nat_le}

-- the place of the ring that the number n is: itself below 65,536, and none from there on
abbrev pub place_of : ℕ → Option ℕ
place_of n = cond (nat_le 65536 n) None (Some n)
