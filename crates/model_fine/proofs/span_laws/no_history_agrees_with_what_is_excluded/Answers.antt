use Rattle.model_fine.proofs.SpanTreesMeet.{none_excluded}
use Rattle.model_fine.proofs.span_laws.no_history_agrees_with_what_is_excluded.Goals as goal

pub returns : goal.returns
returns c n line script box assumed choice w h some d have is_w within is_h agree =
    none_excluded c.history_laws.ensures c.line_laws.ensures n some line script choice h is_h box
    assumed w d have is_w within agree
