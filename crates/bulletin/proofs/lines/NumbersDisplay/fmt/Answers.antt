use Rattle.std.proofs.Common.{refl}
use Rattle.bulletin.proofs.Writing.{put_number}
use Rattle.bulletin.proofs.lines.NumbersDisplay.fmt.Goals as goal

pub loop-released-preserved : goal.loop-released-preserved
loop-released-preserved g c plain =
    let before = c.loop-released.invariant plain in
    let one = c.in_ok-write.ensures.writes before.plain refl in
    put_number _ _ _ _ _ _ _ _ _ _ c.loop-released-test.true c.released-item.is c.of-printed.ensures before one
