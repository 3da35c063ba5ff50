use Rattle.model_settle.proofs.UnderHistories.{under_exists, under_once, under_nothing}
use Rattle.model_settle.proofs.UnderHistories.{shown_nothing}
use Rattle.model_settle.proofs.case_laws.each_box_has_one_history_under.Goals as goal

pub returns : goal.returns
returns c = record {
  exists = λ line script box assumed d.
      under_exists c.history_laws.ensures c.line_laws.ensures.trees line script box assumed d;
  only = λ line script box assumed v w d is_v is_w.
      under_once c.history_laws.ensures c.line_laws.ensures.trees line script box assumed d v w is_v
      is_w;
  nothing = under_nothing c.history_laws.ensures;
  held = shown_nothing c.history_laws.ensures;
}
