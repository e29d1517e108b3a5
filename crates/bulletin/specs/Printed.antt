-- What is printed for a number released, and the bytes of it. Only what is printed is cut, never what is released.
use Rattle.std.specs.Prelude.{ℕ, cond, min, List, Option, Some, None, codes, decimal, nat_le}
use Rattle.bulletin.specs.declared.printed.Printed.{Printed}

-- for the place n of the ring, released from a roll of p places: 0 from 49,152 on, which stands below nothing, else the lesser of n and p
abbrev pub shown : ℕ → ℕ → ℕ
shown p n = cond (nat_le 49152 n) 0 (min n p)

-- for the number n released from a roll of p places: none for 65,536, and what is shown for a place of the ring;
-- none too for what is no number released, above 65,536
abbrev pub printed : ℕ → ℕ → Printed
printed p n = record { 0 = cond (nat_le 65536 n) None (Some (shown p n)) }

-- the bytes of what is printed
abbrev pub text_of : Option ℕ → List ℕ
text_of None = codes "none"
text_of (Some n) = decimal n

-- as a value of the code
abbrev pub printed_text : Printed → List ℕ
printed_text q = text_of q.0
