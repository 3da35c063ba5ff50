use Rattle.model_history.proofs.ElementLaws.{timed-below, sealed-below}
use Rattle.model_history.proofs.element_laws.elements_grow.Goals as goal

pub returns : goal.returns
returns c = record { timed = timed-below; sealed = sealed-below }
