use Rattle.std.proofs.Common.{◌≡◌, ◌<◌, ◌+◌, ◌∙◌, ℕ, arith}
use Rattle.std.proofs.lemmas.List.{length-set}
use Rattle.model_history.specs.Rails.{Ends}
use Rattle.judge_slacks.specs.{Asked.move_at, Inward.narrowed}
use Rattle.judge_slacks.proofs.MoveSpans.{ends_are, order_more, set_more}
use Rattle.judge_slacks.proofs.moves.move_span.Goals as goal

pub loop-lane-preserved : goal.loop-lane-preserved
loop-lane-preserved c =
    let of = c.args.of.now in
    let inv = c.loop-lane.invariant in
    let long = inv.long in
    let long_too = inv.long_too in
    let inside : c.loop-lane.lane < 64 = omega (arith, c.loop-lane-test.true) in
    let ends : ℕ → Ends =
    λ k. (narrowed of.compiled.line.now of.param of.side (move_at c.args.gap (k + 1))).ends c.args.param in
    record {
      long = length-set c.loop-lane.least c.loop-lane.lane c.new.result ∙ long;
      long_too = length-set c.loop-lane.greatest c.loop-lane.lane c.new-in-loop-lane.result ∙ long_too;
      least = set_more c.loop-lane.least (λ k. (ends k).least) c.loop-lane.lane c.new.result
          (omega (arith, inside, long)) inv.least (c.new.ensures ∙ c.ends_at-low.ensures.least);
      greatest = set_more c.loop-lane.greatest (λ k. (ends k).greatest) c.loop-lane.lane
          c.new-in-loop-lane.result (omega (arith, inside, long_too)) inv.greatest
          (c.new-in-loop-lane.ensures ∙ c.ends_at-low.ensures.greatest);
      ordered = order_more c.loop-lane.least c.loop-lane.greatest c.loop-lane.lane c.new.result
          c.new-in-loop-lane.result (omega (arith, inside, long)) (omega (arith, inside, long_too))
          inv.ordered
          (let a = c.new.ensures in let b = c.new-in-loop-lane.ensures in
          let le = c.ends_at-low.ensures.ordered in omega (arith, a, b, le));
    }

pub returns : goal.returns
returns c =
    let of = c.args.of.now in
    let inv = c.loop-lane.invariant in
    let last : c.loop-lane.lane ≡ 64 =
    omega (arith, c.loop-lane-test.false, c.loop-lane.auto.lane-end) in
    ends_are c.new-4.result c.loop-lane.least c.loop-lane.greatest
    (λ k. (narrowed of.compiled.line.now of.param of.side (move_at c.args.gap (k + 1))).ends c.args.param)
    (let a = c.new-2.ensures in let b = c.new-3.ensures in let d = c.new-4.ensures in cc)
    (λ k lt. inv.least k (omega (arith, lt, last)))
    (λ k lt. inv.greatest k (omega (arith, lt, last)))
