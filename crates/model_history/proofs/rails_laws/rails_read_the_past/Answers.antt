use Rattle.model_history.proofs.RailsBridge.{rails_timed-same, rails_sealed-same}
use Rattle.model_history.proofs.rails_laws.rails_read_the_past.Goals as goal

pub returns : goal.returns
returns c = record { timed = rails_timed-same; sealed = rails_sealed-same }
