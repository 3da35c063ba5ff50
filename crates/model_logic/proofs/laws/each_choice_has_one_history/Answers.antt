use Rattle.model_logic.proofs.HistoryLaws.{history_exists, history_once}
use Rattle.model_logic.proofs.laws.each_choice_has_one_history.Goals as goal

pub returns : goal.returns
returns c = record {
  exists = λ line script choice d. history_exists c.history_laws.ensures line script choice d;
  only = λ line script choice g h d is_g is_h. history_once c.history_laws.ensures line script choice d g h is_g is_h;
}
