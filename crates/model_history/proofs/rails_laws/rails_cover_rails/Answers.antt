use Rattle.model_history.proofs.WiderLaws.{rails_not-wider, rails_and-wider, rails_or-wider}
use Rattle.model_history.proofs.WiderLaws.{rails_timed-wider, rails_sealed-wider}
use Rattle.model_history.proofs.rails_laws.rails_cover_rails.Goals as goal

pub returns : goal.returns
returns c = record {
  not = rails_not-wider;
  and = rails_and-wider;
  or = rails_or-wider;
  timed = rails_timed-wider;
  sealed = rails_sealed-wider;
}
