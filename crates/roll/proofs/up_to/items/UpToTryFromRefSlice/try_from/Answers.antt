use Rattle.std.proofs.Common.{length, ap, ◌∙◌}
use Rattle.std.proofs.lemmas.List.{take_at}
use Rattle.roll.proofs.Lists.{past-items}
use Rattle.roll.proofs.up_to.items.UpToTryFromRefSlice.try_from.Goals as goal

pub returns : goal.returns
returns g c = (
  take_at _ _ _ (ap length c.copy_from_slice.ensures.after) ∙ c.copy_from_slice.ensures.after,
  past-items g.T.Default.is_default _ _ _ _ c.copy_from_slice.ensures.after c.default-all.ensures,
)
