use Rattle.std.proofs.Common.{refl}
use Rattle.model_logic.specs.Unblocking.{guard_seen}
use Rattle.model_plain.proofs.unblocking.guard_seen.Goals as goal

pub returns : goal.returns
unfolding guard_seen
returns c parts =
    rw c.channel_to-channel.ensures.is at (c.and.ensures parts _ _ (c.not-silent.ensures parts _ refl)
    (c.not-safe.ensures parts _ refl))
