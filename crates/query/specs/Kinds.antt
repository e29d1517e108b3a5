-- The bytes that say which kind of query follows.
use Rattle.std.specs.Prelude.{◌≡◌, ◌≢◌, ℕ, Ok, Err, Result}
use Rattle.roll.specs.declared.refusal.Refusal.{Refusal}
use Rattle.roll.specs.declared.refusal.Refusal.TheVariants.{QueryKind}
use Rattle.query.specs.declared.query.kind.Kind.{Kind}
use Rattle.query.specs.declared.query.kind.Kind.TheVariants.{Count, Table}

-- the byte of each kind
abbrev pub kind_byte : Kind → ℕ
kind_byte Count = 1
kind_byte Table = 2

-- the kind that a byte stands for, or the refusal of a byte that stands for none
abbrev pub KindOf : ℕ → Result Kind Refusal → Type 0
KindOf byte (Ok k) = byte ≡ kind_byte k
KindOf byte (Err e) = (e ≡ QueryKind) × ((k : Kind) → byte ≢ kind_byte k)
