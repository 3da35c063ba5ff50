use Rattle.std.proofs.Common.{◌≡◌, ℕ, ◌<◌, ◌≤◌, length, get_or, set, arith, below_more}
use Rattle.std.proofs.Common.{get_or-set_same, get_or-set_other, ◌∙◌, sym, subst, ◌≢◌}
use Rattle.std.proofs.lemmas.List.{get_or_default, length-set}
use Rattle.run_signal.proofs.BitLaws.{lists_same}
use Rattle.run_signal.proofs.lanes.numbers.Goals as goal

pub returns-clause-same : goal.returns-clause-same
returns-clause-same c = lists_same c.loop-lane.lanes c.args.ticks.now
    (let e : length c.loop-lane.lanes ≡ 64 = c.loop-lane.invariant.long in
    let f : length c.args.ticks.now ≡ 64 = c.requires in omega arith)
    (λ k lt. c.loop-lane.invariant.same k (let e : length c.loop-lane.lanes ≡ 64 =
    c.loop-lane.invariant.long in omega arith))

pub loop-lane-preserved : goal.loop-lane-preserved
loop-lane-preserved c =
    let i : ℕ = c.loop-lane.lane in
    let lanes = c.loop-lane.lanes in
    let v : ℕ = c.value.result in
    let long : length c.loop-lane.lanes ≡ 64 = c.loop-lane.invariant.long in
    let lt : i < length lanes = omega arith in
    record {
      same = below_more (λ k. get_or (set lanes i v) k 0 ≡ get_or c.args.ticks.now k 0) i
          (λ k before. let ne : k ≢ i = omega arith in get_or-set_other lanes i k v 0 ne
          ∙ c.loop-lane.invariant.same k before)
          (get_or-set_same lanes i v 0 lt ∙ c.value.ensures.value ∙ c.index-ticks-lane.is
          ∙ get_or_default c.args.ticks.now i c.index-ticks-lane.result 0
          (let f : length c.args.ticks.now ≡ 64 = c.requires in omega arith));
      long = length-set lanes i v ∙ long;
      limited = below_more (λ k. get_or (set lanes i v) k 0 ≤ 4000) i
          (λ k before. let ne : k ≢ i = omega arith in
          subst (λ (n : ℕ). n ≤ 4000) (sym (get_or-set_other lanes i k v 0 ne))
          (c.loop-lane.invariant.limited k before))
          (subst (λ (n : ℕ). n ≤ 4000) (sym (get_or-set_same lanes i v 0 lt
          ∙ c.value.ensures.value)) c.value.ensures.limited);
    }
