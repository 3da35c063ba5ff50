use Rattle.model_logic.proofs.SameTrees.{key_tree-same, trip_tree-same}
use Rattle.model_logic.proofs.interval_laws.trees_do_not_rest_on_the_intervals.Goals as goal

pub returns : goal.returns
returns c = record {
  keys = λ line other k same. key_tree-same line other same k;
  trips = λ line other k same. trip_tree-same line other same k;
}
