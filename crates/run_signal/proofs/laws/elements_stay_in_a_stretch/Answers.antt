use Rattle.run_signal.proofs.StretchLaws.{elements_in_a_stretch}
use Rattle.run_signal.proofs.laws.elements_stay_in_a_stretch.Goals as goal

pub returns : goal.returns
returns c = elements_in_a_stretch c.history_laws.ensures
