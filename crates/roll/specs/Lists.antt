-- The items of a short list.
use Rattle.std.specs.Prelude.{ℕ, List, take}
use Rattle.roll.specs.declared.up_to.UpTo.{UpTo}

-- the items that it holds, in their order
abbrev pub listed : {T : Type 0} {N : ℕ} → UpTo T N → List T
listed l = take l.len l.items
