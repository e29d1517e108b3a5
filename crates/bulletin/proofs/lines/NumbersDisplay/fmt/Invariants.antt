use Rattle.std.proofs.Common.{take}
use Rattle.std.specs.Fmt.{IsPlainFormatter, HasWritten}
use Rattle.bulletin.proofs.Writing.{released_text}
use Rattle.bulletin.proofs.lines.NumbersDisplay.fmt.Given as goal

-- the numbers so far are written
abbrev pub invariant-loop-released : goal.invariant-loop-released
invariant-loop-released g l =
    IsPlainFormatter l.initial.f → HasWritten g.W.Write.write_str_gives l.initial.f (released_text g.N.AsReleased.number l.self.places (take l.released-index l.self.released.now)) l.f
