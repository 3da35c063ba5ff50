use Rattle.model_logic.proofs.LogicNames.{local_key_tree, local_trip_tree}
use Rattle.model_logic.proofs.laws.trees_are_local.Goals as goal

pub returns : goal.returns
returns c = record {
  keys = λ line k lt. local_key_tree line k lt;
  trips = λ line k lt. local_trip_tree line k lt;
}
