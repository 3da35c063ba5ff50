use Rattle.model_logic.specs.Choice.{world_of, pair_world_of}
use Rattle.model_logic.specs.Logic.{key_tree}
use Rattle.model_logic.proofs.PairLaws.{pair_mean-past, the_keys-solve}
use Rattle.model_logic.proofs.WorldLaws.{world_delayed}
use Rattle.model_logic.proofs.HistoryLaws.{keys_named}
use Rattle.model_logic.proofs.PlainLaws.{mean-past}
use Rattle.model_logic.proofs.laws.values_rest_on_earlier_keys.Goals as goal
use Rattle.model_logic.specs.BoxLaws.{pair_world_delayed}

pub returns : goal.returns
returns c = record {
  value = λ line script choice u v x t d lt named same.
      mean-past c.history_laws.ensures line (world_of line script choice) (world_delayed line script choice d) u v x t lt
      named same;
  pair = λ line script box u v x t d lt named same.
      pair_mean-past c.history_laws.ensures line (pair_world_of line script box) (pair_world_delayed line script box d) u v
      x t lt named same;
  solution = λ line script box d.
      the_keys-solve c.history_laws.ensures line (pair_world_of line script box) (pair_world_delayed line script box d)
      (key_tree line) (keys_named line);
}
