use Rattle.std.proofs.Common.{◌≡◌, ℕ, ◌-◌, ◌<◌, ◌≤◌}
use Rattle.model_history.specs.Elements.{some_below}
use Rattle.run_signal.specs.Bits.{bit_on}
use Rattle.judge_verdict.specs.verdict.Candidates.{trips_in}
use Rattle.judge_verdict.proofs.verdict.failing.tripped.Given as goal

abbrev pub invariant-stretches : goal.invariant-stretches
invariant-stretches l = record {
  inside : l.t ≤ l.ticks;
  lanes : (lane : ℕ) → lane < 64
      → bit_on l.lanes lane ≡ some_below (trips_in l.trip lane) l.t;
}

abbrev pub decreases-stretches : goal.decreases-stretches
decreases-stretches l = l.ticks - l.t
