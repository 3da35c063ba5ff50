use Rattle.std.proofs.Common.{◌≡◌, ◌+◌, ◌∷◌, [], ℕ, length, length-append, sym, ◌∙◌, ap}
use Rattle.run_signal.specs.Bits.{bit_on}
use Rattle.model_history.specs.ListLaws.{each_more}
use Rattle.judge_cases.proofs.shown.lanes_told.Goals as goal

pub loop-lane-preserved : goal.loop-lane-preserved
loop-lane-preserved c = record {
  count = ap length c.in_ok-push.ensures.items
      ∙ length-append c.loop-lane.told.items (c.must.result ∷ [])
      ∙ ap (λ (n : ℕ). n + 1) c.loop-lane.invariant.count;
  each = each_more (λ k b. b ≡ bit_on c.args.lanes k) c.loop-lane.told.items
      c.push.new.self.items c.must.result c.loop-lane.lane c.in_ok-push.ensures.items
      (sym c.loop-lane.invariant.count) c.loop-lane.invariant.each c.must.ensures;
}
