use Rattle.model_logic.proofs.HistoryLaws.{pair_history_exists, pair_history_once}
use Rattle.model_logic.proofs.laws.each_box_has_one_interval_history.Goals as goal

pub returns : goal.returns
returns c = record {
  exists = λ line script box d. pair_history_exists c.history_laws.ensures line script box d;
  only = λ line script box v w d is_v is_w. pair_history_once c.history_laws.ensures line script box d v w is_v is_w;
}
