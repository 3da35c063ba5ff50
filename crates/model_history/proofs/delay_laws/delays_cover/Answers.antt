use Rattle.model_history.proofs.{DelayLaws.delayed_covers, WiderLaws.rails_delayed-wider}
use Rattle.model_history.proofs.delay_laws.delays_cover.Goals as goal

pub returns : goal.returns
returns c = record {
  values = λ u v ends c t. delayed_covers u v (ends t) (c t) t;
  rails = λ u v wide narrow t. rails_delayed-wider u v (wide t) (narrow t) t;
}
