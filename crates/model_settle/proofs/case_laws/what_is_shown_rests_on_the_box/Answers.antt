use Rattle.model_settle.proofs.UnderSame.{under_same_box, under_same_line, shown_same_box}
use Rattle.model_settle.proofs.UnderSame.{shown_same_line}
use Rattle.model_settle.proofs.case_laws.what_is_shown_rests_on_the_box.Goals as goal

pub returns : goal.returns
returns c = record {
  boxes = λ line script a b assumed w same.
      under_same_box c.history_laws.ensures c.line_laws.ensures.trees line script a b same assumed
      w;
  lines = λ line other script box assumed w same.
      under_same_line c.history_laws.ensures c.line_laws.ensures.trees
      c.trees_do_not_rest_on_the_intervals.ensures line other same script box assumed w;
  shown = shown_same_box c.history_laws.ensures c.line_laws.ensures.trees;
  of_lines = shown_same_line c.history_laws.ensures c.line_laws.ensures.trees
      c.trees_do_not_rest_on_the_intervals.ensures;
}
