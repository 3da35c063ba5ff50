use Rattle.std.proofs.Common.{◌≡◌, ◌+◌, Some, length-append, ap, ◌∙◌, ℕ, ◌∷◌, [], length, sym}
use Rattle.std.specs.Prelude.{slice_get}
use Rattle.judge_verdict.specs.declared.verdict.rule.Rule.{Rule}
use Rattle.judge_margins.specs.{declared.map.ruled.Ruled.Ruled, map.Blocks.IsRuleIn}
use Rattle.model_history.specs.ListLaws.{each_more}
use Rattle.judge_margins.proofs.map.ruled.cell_in_lane.Goals as goal

pub loop-place-preserved : goal.loop-place-preserved
loop-place-preserved c = record {
  count = ap length c.in_ok-push.ensures.items
      ∙ length-append c.loop-place.rules.items (c.rule_at.result ∷ [])
      ∙ ap (λ (n : ℕ). n + 1) c.loop-place.invariant.count;
  each = each_more (λ place (rule : Rule).
      (one : Ruled) → slice_get c.args.ruled.now place ≡ Some one → IsRuleIn one c.args.lane rule)
      c.loop-place.rules.items c.push.new.self.items c.rule_at.result c.loop-place.place
      c.in_ok-push.ensures.items (sym c.loop-place.invariant.count) c.loop-place.invariant.each
      c.rule_at.ensures;
}
