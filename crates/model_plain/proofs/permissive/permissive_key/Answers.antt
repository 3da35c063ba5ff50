use Rattle.std.proofs.Common.{refl}
use Rattle.model_logic.specs.Permissive.{permissive_key, echo}
use Rattle.model_plain.proofs.permissive.permissive_key.Goals as goal

pub returns : goal.returns
unfolding permissive_key echo
returns c parts = rw c.requires.strong (c.or.ensures parts _ _ (c.ahead.ensures parts) refl)
