use Rattle.model_history.proofs.WiderLaws.{covers_itself, covers_on, covers_value_on}
use Rattle.model_history.proofs.rails_laws.covering_is_an_order.Goals as goal
use Rattle.model_history.specs.RailLaws.{covers_both, both_covered}

pub returns : goal.returns
returns c = record {
  itself = covers_itself;
  on = covers_on;
  value = covers_value_on;
  exact = λ x v. (both_covered x v, covers_both x v);
}
