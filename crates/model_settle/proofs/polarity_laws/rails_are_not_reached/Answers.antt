use Rattle.model_settle.proofs.NotReached.{roles_on, roles_off, rails_on, rails_off}
use Rattle.model_settle.proofs.polarity_laws.rails_are_not_reached.Goals as goal

pub returns : goal.returns
returns c = record {
  roles_may = roles_on;
  roles_never = roles_off;
  rails_may = rails_on;
  rails_never = rails_off;
}
