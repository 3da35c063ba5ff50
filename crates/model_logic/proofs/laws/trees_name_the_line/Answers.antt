use Rattle.model_logic.proofs.LogicNames.{names_key_tree, names_trip_tree}
use Rattle.model_logic.proofs.laws.trees_name_the_line.Goals as goal

pub returns : goal.returns
returns c = record {
  keys = λ line k lt. names_key_tree line k lt;
  trips = λ line k lt. names_trip_tree line k lt;
}
