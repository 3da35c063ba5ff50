use Rattle.std.proofs.Common.{◌≡◌, ◌≤◌, ◌<◌, ◌+◌, ◌-◌, ℕ, List, Option, Some, length, sym, subst, arith}
use Rattle.std.proofs.Math.Nat.{min-eq_left}
use Rattle.std.specs.Prelude.{slice_get}
use Rattle.judge_report.specs.declared.upper_end.Lost.{Lost}
use Rattle.judge_margins.specs.declared.margins.ask.Ask.{Ask}
use Rattle.judge_margins.specs.margins.Asks.{AreTold, IsTold, TellsOff}
use Rattle.judge_margins.proofs.{margins_lemmas.EachLaws.one_more, margins_lemmas.RowLaws.lane_told}
use Rattle.judge_margins.proofs.margins.probe.tell_block.Goals as goal

pub loop-lane-preserved : goal.loop-lane-preserved
loop-lane-preserved c =
    let of = c.args.of.now in
    let asks = c.args.asks.now in
    let first : ℕ = c.len-first.result in
    let lane : ℕ = c.loop-lane.lane in
    let rows = c.in_ok-rows.rows.items in
    let t : Option Lost = c.first_off.result in
    let few : lane < 64 = omega (arith, c.loop-lane-test.true, c.min-lanes.ensures) in
    let inside : first + lane ≤ length asks - 1 =
    omega (arith, c.loop-lane-test.true, c.min-lanes.ensures) in
    let more : first + lane + 1 ≡ first + (lane + 1) = omega arith in
    subst (λ (n : ℕ). AreTold of asks c.push.new.self.items n) more
    (one_more (λ _ (ask : Ask) (x : Option Lost). IsTold of ask x) asks c.loop-lane.told.items
    c.push.new.self.items t (first + lane) c.loop-lane.invariant c.in_ok-push.ensures.items
    (λ ask at.
    lane_told of asks first lane ask rows t few
    (subst (λ (n : ℕ). slice_get asks n ≡ Some ask) (sym (min-eq_left inside)) at)
    c.in_ok-rows.ensures
    (subst (λ (l : List ℕ). TellsOff of.these.now l lane t) c.deref.ensures.value
    c.first_off.ensures)))
