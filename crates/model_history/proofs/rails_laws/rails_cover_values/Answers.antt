use Rattle.model_history.proofs.RailsBridge.{timed_covers, sealed_covers}
use Rattle.model_history.proofs.WiderLaws.{not_covers, and_covers, or_covers}
use Rattle.model_history.proofs.rails_laws.rails_cover_values.Goals as goal

pub returns : goal.returns
returns c = record {
  not = not_covers;
  and = and_covers;
  or = or_covers;
  timed = timed_covers;
  sealed = sealed_covers;
}
