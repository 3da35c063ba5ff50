use Rattle.model_logic.proofs.SameHistories.{history_same, pair_history_same}
use Rattle.model_logic.proofs.interval_laws.histories_do_not_rest_on_the_intervals.Goals as goal
use Rattle.model_line.specs.SameLineLaws.{exchanged}

pub returns : goal.returns
returns c = record {
  choices = λ line other script choice h same. (
    history_same other line (exchanged line other same) script choice h,
    history_same line other same script choice h,
  );
  boxes = λ line other script box w same. (
    pair_history_same other line (exchanged line other same) script box w,
    pair_history_same line other same script box w,
  );
}
