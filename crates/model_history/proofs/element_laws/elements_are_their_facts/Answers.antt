use Rattle.model_history.proofs.ElementLaws.{Decides-hold, Decides-timed, Decides-sealed}
use Rattle.model_history.proofs.element_laws.elements_are_their_facts.Goals as goal

pub returns : goal.returns
returns c = record { hold = Decides-hold; timed = Decides-timed; sealed = Decides-sealed }
