use Rattle.std.proofs.Common.{ℕ, ◌-◌, ◌<◌, ◌≤◌}
use Rattle.std.specs.Prelude.{◌↔◌, IsTrue}
use Rattle.model_line.specs.declared.script.Script.{Script}
use Rattle.run_changes.specs.changes.Tracks.{CanTake, IsKeptOf}
use Rattle.run_changes.specs.changes.Agreeing.{LaneAgrees}
use Rattle.run_changes.proofs.changes.agreeing.take_agreeing.Given as goal

abbrev pub invariant-loop-t : goal.invariant-loop-t
invariant-loop-t g l = record {
  fits : l.t ≤ l.run.compiled.now.line.now.horizon;
  kept : CanTake g.V.Signal.signal l.run l.t l.kept;
  stands : (script : Script)
      → IsKeptOf g.V.Signal.signal g.V.Timed.stands_for l.run script 0 l.initial.kept
      → IsKeptOf g.V.Signal.signal g.V.Timed.stands_for l.run script l.t l.kept;
  agree : (script : Script)
      → IsKeptOf g.V.Signal.signal g.V.Timed.stands_for l.run script 0 l.initial.kept
      → (lane : ℕ) → lane < g.V.Signal.signal.lanes
      → (IsTrue (g.V.Signal.signal.rails l.lanes lane).must
      ↔ LaneAgrees g.V.Signal.signal.ends l.run script lane l.recorded.keys.items
      l.recorded.trips.items l.t);
}

abbrev pub decreases-loop-t : goal.decreases-loop-t
decreases-loop-t g l = l.run.compiled.now.line.now.horizon - l.t
