use Rattle.std.proofs.Common.{◌<◌, ◌≤◌, ◌-◌, ℕ, length}
use Rattle.model_history.specs.Rails.{rails_at}
use Rattle.run_signal.specs.Lanes.{in_lane}
use Rattle.run_signal.specs.Tracks.{StaysUntil}
use Rattle.run_signal.proofs.track.same_until.Given as goal

abbrev pub invariant-loop-end : goal.invariant-loop-end
invariant-loop-end g l = record {
  later : l.t < l.end;
  limited : l.end ≤ length l.values;
  stays : (lane : ℕ) → lane < g.V.Signal.signal.lanes
      → StaysUntil (rails_at (in_lane g.V.Signal.signal.rails lane l.values)) l.t (length l.values)
      l.end;
}

abbrev pub decreases-loop-end : goal.decreases-loop-end
decreases-loop-end g l = l.last - l.end
