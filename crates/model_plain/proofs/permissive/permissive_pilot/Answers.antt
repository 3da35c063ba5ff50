use Rattle.std.proofs.Common.{refl}
use Rattle.model_logic.specs.Permissive.{permissive_pilot, weak_infeed_trip}
use Rattle.model_plain.proofs.permissive.permissive_pilot.Goals as goal

pub returns : goal.returns
unfolding permissive_pilot weak_infeed_trip
returns c parts =
    rw c.requires.strong (c.or.ensures parts _ _
    (c.permitted-permitted.ensures parts _ (c.permission.ensures parts)) refl)
