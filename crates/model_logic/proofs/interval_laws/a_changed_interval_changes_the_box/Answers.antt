use Rattle.model_logic.proofs.ChangedBox.{box_changed, number_changed}
use Rattle.model_logic.proofs.ChangedChoices.{inside_changed}
use Rattle.model_logic.proofs.interval_laws.a_changed_interval_changes_the_box.Goals as goal

pub returns : goal.returns
returns c = record {
  all = λ line other param least greatest here is.
      box_changed line other param least greatest here is;
  number = λ line other param least greatest here no_delay is.
      number_changed line other param least greatest here is no_delay;
  choices = λ line other param least greatest choice here no_delay is inside number.
      inside_changed line other param least greatest here no_delay is choice inside number;
}
