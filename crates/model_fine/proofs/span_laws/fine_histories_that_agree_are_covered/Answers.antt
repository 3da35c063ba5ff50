use Rattle.model_fine.proofs.SpanCovers.{history_covered, tree_covered}
use Rattle.model_fine.proofs.span_laws.fine_histories_that_agree_are_covered.Goals as goal

pub returns : goal.returns
returns c = record {
  histories = λ n line script box assumed choice w h some d have is_w within is_h agree.
      history_covered c.history_laws.ensures c.line_laws.ensures.trees n some line script box assumed
      choice w h d have is_w within is_h agree;
  trees = λ n line script box assumed choice w h some d have is_w within is_h agree.
      tree_covered c.history_laws.ensures c.line_laws.ensures.trees n some line script box assumed
      choice w h d have is_w within is_h agree;
}
