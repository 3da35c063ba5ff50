use Rattle.std.proofs.Common.{◌≡◌, ◌+◌, ◌/◌, ◌%◌, Some, length-append, ap, ◌∙◌, ℕ, ◌∷◌, [], length, sym}
use Rattle.std.specs.Prelude.{slice_get}
use Rattle.model_history.specs.ListLaws.{each_more}
use Rattle.judge_choose.specs.Asked.{IsAsked}
use Rattle.judge_choose.specs.declared.cover.Cover.{Cover}
use Rattle.judge_choose.proofs.asks.asked.Goals as goal

pub loop-lane-preserved : goal.loop-lane-preserved
loop-lane-preserved c = record {
  count = ap length c.in_ok-push.ensures.items
      ∙ length-append c.loop-lane.asked.items (c.asked_in.result ∷ [])
      ∙ ap (λ (n : ℕ). n + 1) c.loop-lane.invariant.count;
  each = each_more (λ lane (cover : Cover).
      (candidate : Cover) → slice_get c.args.candidates.now (lane / 4) ≡ Some candidate
      → IsAsked candidate (lane % 4) cover)
      c.loop-lane.asked.items c.push.new.self.items c.asked_in.result c.loop-lane.lane
      c.in_ok-push.ensures.items (sym c.loop-lane.invariant.count) c.loop-lane.invariant.each
      c.asked_in.ensures;
}
