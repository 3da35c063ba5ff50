use Rattle.std.proofs.Common.{[]}
use Rattle.std.proofs.lemmas.List.Elements.{All-nil}
use Rattle.model_logic.specs.Choice.{declared_box}
use Rattle.model_settle.specs.Assumed.{HasSpan, span_of}
use Rattle.model_fine.specs.Spans.{Agrees}
use Rattle.model_fine.proofs.SpanTreesMeet.{sound_meets}
use Rattle.model_fine.proofs.span_laws.sound_trees_meet.Goals as goal

pub returns : goal.returns
returns c = record {
  agreeing = λ line script k box assumed tree early d kn have sound all n choice h some within is_h agree.
      sound_meets c.history_laws.ensures c.line_laws.ensures c.each_box_has_one_history_under.ensures n
      some line script k early kn choice h is_h tree box assumed d have sound all within agree;
  declared = λ line script k tree early kn sound all n choice h some within is_h.
      sound_meets c.history_laws.ensures c.line_laws.ensures c.each_box_has_one_history_under.ensures n
      some line script k early kn choice h is_h tree (declared_box line) [] (c.line_laws.ensures.inside.declared line)
      (All-nil (λ a. HasSpan line (span_of a))) sound all within
      (All-nil (Agrees n line script choice h));
}
