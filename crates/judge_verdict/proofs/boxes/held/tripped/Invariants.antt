use Rattle.std.proofs.Common.{◌≡◌, ℕ, ◌-◌, ◌<◌, ◌≤◌}
use Rattle.model_history.specs.Elements.{some_below}
use Rattle.judge_verdict.specs.{boxes.Terns.terns_rails, boxes.Held.must_trip, boxes.Held.may_trip}
use Rattle.judge_verdict.proofs.boxes.held.tripped.Given as goal

abbrev pub invariant-stretches : goal.invariant-stretches
invariant-stretches l = record {
  inside : l.t ≤ l.ticks;
  must : (lane : ℕ) → lane < 64
      → (terns_rails l.lanes lane).must ≡ some_below (must_trip l.trip lane) l.t;
  may : (lane : ℕ) → lane < 64
      → (terns_rails l.lanes lane).may ≡ some_below (may_trip l.trip lane) l.t;
}

abbrev pub decreases-stretches : goal.decreases-stretches
decreases-stretches l = l.ticks - l.t
