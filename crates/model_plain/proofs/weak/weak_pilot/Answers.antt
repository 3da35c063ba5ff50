use Rattle.std.proofs.Common.{refl}
use Rattle.model_plain.proofs.weak.weak_pilot.Goals as goal

pub returns : goal.returns
returns c parts =
    c.or.ensures parts _ _ (c.permitted-permitted.ensures parts _ refl)
    (c.and-infeed.ensures parts _ _ refl (c.element_formula-undervoltage.ensures.is parts))
