use Rattle.model_logic.proofs.HistoryLaws.{both_rails, must_rails}
use Rattle.model_logic.proofs.laws.a_point_box_gives_the_history.Goals as goal

pub returns : goal.returns
returns c = record {
  both = λ line script choice w h d is_w is_h. both_rails c.history_laws.ensures line script choice d w h is_w is_h;
  itself = λ line script choice w d is_w. must_rails c.history_laws.ensures line script choice d w is_w;
}
