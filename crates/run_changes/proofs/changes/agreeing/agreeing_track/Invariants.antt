use Rattle.std.proofs.Common.{ℕ, ◌-◌, ◌<◌, ◌≤◌}
use Rattle.std.specs.Prelude.{◌↔◌, IsTrue}
use Rattle.model_history.specs.Rails.{rails_at}
use Rattle.run_signal.specs.{Lanes.in_lane, Levels.level_rails}
use Rattle.run_changes.specs.changes.Agreeing.{AgreeIn}
use Rattle.run_changes.proofs.changes.agreeing.agreeing_track.Given as goal

abbrev pub invariant-stretches : goal.invariant-stretches
invariant-stretches g l = record {
  from : l.from ≤ l.t;
  inside : l.t ≤ l.end;
  lanes : (lane : ℕ) → lane < g.V.Signal.signal.lanes
      → (IsTrue (g.V.Signal.signal.rails l.lanes lane).must
      ↔ AgreeIn (rails_at (in_lane g.V.Signal.signal.rails lane l.track.keys))
      (rails_at (in_lane (λ x _. level_rails x) 0 l.recorded.keys)) l.from l.t);
}

abbrev pub decreases-stretches : goal.decreases-stretches
decreases-stretches g l = l.end - l.t
