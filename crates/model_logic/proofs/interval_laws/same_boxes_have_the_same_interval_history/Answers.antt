use Rattle.model_logic.proofs.SameHistories.{same_box}
use Rattle.model_logic.proofs.ChangedChoices.{same_box_within}
use Rattle.model_logic.proofs.interval_laws.same_boxes_have_the_same_interval_history.Goals as goal

pub returns : goal.returns
returns c = record { histories = same_box c.history_laws.ensures; choices = same_box_within }
