use Rattle.std.proofs.Common.{◌≡◌, ℕ, Some, ap, refl, ◌∙◌}
use Rattle.std.specs.Prelude.{slice_get}
use Rattle.model_history.specs.ListLaws.{one_value}
use Rattle.judge_verdict.specs.verdict.OneEachLaws.{one_more}
use Rattle.judge_borders.specs.declared.fault.PartRule.{PartRule}
use Rattle.judge_times.specs.declared.part.Told.{Told}
use Rattle.judge_times.specs.Told.{told_by}
use Rattle.judge_times.proofs.part.told_of.Goals as goal

pub loop-k-preserved : goal.loop-k-preserved
loop-k-preserved c =
    one_more (λ (k : ℕ) (told : Told). (rule : PartRule) → slice_get c.args.rules.now k ≡ Some rule
    → told ≡ told_by rule (slice_get c.args.fails.now k)) c.loop-k.k c.loop-k.told.items
    c.push.new.self.items c.told_by.result c.in_ok-push.ensures.items
    (λ rule at. c.told_by.ensures
    ∙ ap (λ (r : PartRule). told_by r c.mark_at-mark.result)
    (one_value c.args.rules.now c.loop-k.k c.loop-k.k c.rule_at-rule.result rule refl c.rule_at-rule.ensures at)
    ∙ ap (told_by rule) c.mark_at-mark.ensures) c.loop-k.invariant
