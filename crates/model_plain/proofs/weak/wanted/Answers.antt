use Rattle.std.proofs.Common.{refl}
use Rattle.model_plain.proofs.weak.wanted.Goals as goal

pub returns : goal.returns
returns c parts = c.wanted_with.ensures parts _ refl
