use Rattle.std.proofs.Common.{◌≡◌, ℕ, ◌<◌, ◌≤◌, length, Some}
use Rattle.std.specs.Prelude.{slice_get, vec_capacity}
use Rattle.model_logic.specs.{declared.time.Time.Time, PairMean.PairWorld}
use Rattle.net_gates.specs.declared.gate.Gate.{Gate}
use Rattle.run_step.specs.LaneBox.{time_ends}
use Rattle.run_step.specs.{GatePairs.GateSignals, CellStands.HasCell, Ticks.AllStand}
use Rattle.run_step.proofs.fresh.fresh_cells.Given as goal

abbrev pub invariant-loop-i : goal.invariant-loop-i
invariant-loop-i g l = record {
  count : length l.cells.items ≡ l.i;
  room : length l.net.gates ≤ vec_capacity l.cells;
  shape : (j : ℕ) (gate : Gate) (cell : _) → slice_get l.net.gates j ≡ Some gate
      → slice_get l.cells.items j ≡ Some cell → HasCell gate cell;
  stands : (lane : ℕ) (w : PairWorld) (u : GateSignals) → lane < g.V.Signal.signal.lanes
      → ((x : Time) → w.time x ≡ time_ends g.V.Signal.signal.ends lane l.spans x)
      → AllStand g.V.Signal.signal g.V.Timed.stands_for lane w u 0 l.net.gates
      l.cells.items;
}
