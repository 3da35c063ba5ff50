use Rattle.model_history.proofs.DelayLaws.{delayed-same, rails_delayed-same}
use Rattle.model_history.proofs.delay_laws.delays_read_earlier_ticks.Goals as goal

pub returns : goal.returns
returns c = record {
  delayed = delayed-same;
  rails = λ u v c t same. rails_delayed-same u v (c t) t same;
}
