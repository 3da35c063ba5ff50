use Rattle.std.proofs.Common.{◌≡◌, ◌+◌, Some, length-append, ap, ◌∙◌, ℕ, Bool, ◌∷◌, [], length, sym}
use Rattle.std.specs.Prelude.{slice_get}
use Rattle.run_signal.specs.Bits.{bit_on}
use Rattle.model_history.specs.ListLaws.{each_more}
use Rattle.judge_choose.proofs.lanes.in_lane.Goals as goal

pub loop-place-preserved : goal.loop-place-preserved
loop-place-preserved c = record {
  count = ap length c.in_ok-push.ensures.items
      ∙ length-append c.loop-place.kept.items (c.is_on.result ∷ [])
      ∙ ap (λ (n : ℕ). n + 1) c.loop-place.invariant.count;
  each = each_more (λ place (b : Bool).
      (bits : ℕ) → slice_get c.args.told.now place ≡ Some bits → b ≡ bit_on bits c.args.lane)
      c.loop-place.kept.items c.push.new.self.items c.is_on.result c.loop-place.place
      c.in_ok-push.ensures.items (sym c.loop-place.invariant.count) c.loop-place.invariant.each
      c.is_on.ensures;
}
