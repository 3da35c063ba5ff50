use Rattle.model_history.specs.Rails.{both}
use Rattle.model_history.proofs.DelayLaws.{delayed_single}
use Rattle.model_history.proofs.delay_laws.delays_at_single_numbers.Goals as goal

pub returns : goal.returns
returns c = λ u c t. delayed_single (λ r. both (u r)) (c t) t
