use Rattle.std.proofs.Common.{refl}
use Rattle.model_plain.proofs.weak.weak_key.Goals as goal

pub returns : goal.returns
returns c parts =
    c.or.ensures parts _ _ refl (c.pulsed-echo.ensures parts _ refl refl)
