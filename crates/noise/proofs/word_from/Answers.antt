use Rattle.std.proofs.Common.{arith}
use Rattle.noise.proofs.Reading.{eight_bytes}
use Rattle.noise.proofs.word_from.Goals as goal

pub returns : goal.returns
returns c = omega (arith, eight_bytes c.args.bytes.now (omega arith))
