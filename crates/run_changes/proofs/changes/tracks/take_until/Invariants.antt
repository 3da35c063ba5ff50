use Rattle.std.proofs.Common.{◌-◌, ◌≤◌}
use Rattle.model_line.specs.declared.script.Script.{Script}
use Rattle.run_changes.specs.changes.Tracks.{CanTake, IsKeptOf}
use Rattle.run_changes.proofs.changes.tracks.take_until.Given as goal

abbrev pub invariant-loop-t : goal.invariant-loop-t
invariant-loop-t g l = record {
  fits : l.t ≤ l.run.compiled.now.line.now.horizon;
  kept : CanTake g.V.Signal.signal l.run l.t l.kept;
  stands : (script : Script)
      → IsKeptOf g.V.Signal.signal g.V.Timed.stands_for l.run script 0 l.initial.kept
      → IsKeptOf g.V.Signal.signal g.V.Timed.stands_for l.run script l.t l.kept;
}

abbrev pub decreases-loop-t : goal.decreases-loop-t
decreases-loop-t g l = l.until - l.t
