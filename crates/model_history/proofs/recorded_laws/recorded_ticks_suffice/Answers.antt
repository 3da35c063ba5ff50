use Rattle.model_history.proofs.RailsBridge.{timed_of_ticks, sealed_of_ticks}
use Rattle.model_history.proofs.DelayLaws.{delayed_of_ticks}
use Rattle.model_history.proofs.recorded_laws.recorded_ticks_suffice.Goals as goal

pub returns : goal.returns
returns c = record {
  timed = timed_of_ticks;
  sealed = sealed_of_ticks;
  delayed = λ u c t. delayed_of_ticks u (c t) t;
}
