use Rattle.model_history.specs.FirstTickLaws.{length-first_ticks}
use Rattle.model_history.proofs.{RailsBridge.rails_at-first_ticks, RecordedLaws.first_ticks-at}
use Rattle.model_history.proofs.recorded_laws.recordings_give_their_ticks.Goals as goal

pub returns : goal.returns
returns c = record {
  count = length-first_ticks;
  rails = rails_at-first_ticks;
  again = first_ticks-at;
}
