use Rattle.std.proofs.Common.{◌+◌, length-append, ap, ◌∙◌, ℕ, ◌∷◌, [], length, sym}
use Rattle.model_history.specs.ListLaws.{each_more}
use Rattle.judge_slacks.specs.Asked.{IsMoveSpan}
use Rattle.judge_slacks.proofs.moves.move_spans.Goals as goal

pub loop-param-preserved : goal.loop-param-preserved
loop-param-preserved c = record {
  count = ap length c.in_ok-push.ensures.items
      ∙ length-append c.loop-param.spans.items (c.move_span.result ∷ [])
      ∙ ap (λ (n : ℕ). n + 1) c.loop-param.invariant.count;
  each = each_more (λ param span. IsMoveSpan c.args.of.now c.args.gap param span)
      c.loop-param.spans.items c.push.new.self.items c.move_span.result c.loop-param.param
      c.in_ok-push.ensures.items (sym c.loop-param.invariant.count) c.loop-param.invariant.each
      c.move_span.ensures;
}
