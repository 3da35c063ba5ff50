use Rattle.std.proofs.Common.{◌≡◌, ◌+◌, length-append, ap, ◌∙◌, ℕ, ◌∷◌, [], length, sym}
use Rattle.model_line.specs.Parameters.{declared_ends}
use Rattle.model_history.specs.ListLaws.{each_more}
use Rattle.judge_cases.proofs.view.declared_list.Goals as goal

pub loop-param-preserved : goal.loop-param-preserved
loop-param-preserved c = record {
  count = ap length c.in_ok-push.ensures.items
      ∙ length-append c.loop-param.ends.items (c.declared_interval-own.result ∷ [])
      ∙ ap (λ (n : ℕ). n + 1) c.loop-param.invariant.count;
  each = each_more (λ i e. e ≡ declared_ends c.args.line.now i)
      c.loop-param.ends.items c.push.new.self.items c.declared_interval-own.result
      c.loop-param.param c.in_ok-push.ensures.items (sym c.loop-param.invariant.count)
      c.loop-param.invariant.each c.declared_interval-own.ensures;
}
