use Rattle.model_settle.proofs.WorstHistories.{choice_within, key_is_rail, trip_is_rail}
use Rattle.model_settle.proofs.polarity_laws.the_worst_choice_is_the_rail.Goals as goal

pub returns : goal.returns
returns c = record {
  within = choice_within;
  keys = λ line script box cone sides w h ordered d one is_w is_h.
      key_is_rail c.history_laws.ensures c.line_laws.ensures line script box cone sides w h ordered d
      one is_w is_h;
  trips = λ line script box cone sides w h ordered d one is_w is_h.
      trip_is_rail c.history_laws.ensures c.line_laws.ensures line script box cone sides w h ordered d
      one is_w is_h;
}
