use Rattle.model_logic.specs.Logic.{underreach_pilot}
use Rattle.model_plain.proofs.transfer.underreach_pilot.Goals as goal

pub returns : goal.returns
unfolding underreach_pilot
returns c parts =
    c.and.ensures parts _ _ (c.element_formula-ahead.ensures.is parts) (c.any_received.ensures parts)
