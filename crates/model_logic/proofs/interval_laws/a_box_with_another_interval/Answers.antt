use Rattle.model_logic.proofs.ChangedChoices.{within_with, number_in}
use Rattle.model_logic.proofs.interval_laws.a_box_with_another_interval.Goals as goal

pub returns : goal.returns
returns c = record { within = within_with; number = number_in }
