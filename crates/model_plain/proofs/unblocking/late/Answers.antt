use Rattle.std.proofs.Common.{refl}
use Rattle.model_logic.specs.Unblocking.{late}
use Rattle.model_plain.proofs.unblocking.late.Goals as goal

pub returns : goal.returns
unfolding late
returns c parts =
    rw c.channel_time-window.ensures.is at (rw c.channel_to.ensures.is at (c.timer.ensures parts _ refl))
