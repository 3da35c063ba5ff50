use Rattle.model_history.proofs.ElementLaws.{timed-same, sealed-same}
use Rattle.model_history.proofs.element_laws.elements_read_the_past.Goals as goal

pub returns : goal.returns
returns c = record { timed = timed-same; sealed = λ a b c e t. sealed-same a b c e t }
