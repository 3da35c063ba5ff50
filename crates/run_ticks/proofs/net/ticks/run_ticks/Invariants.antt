use Rattle.std.proofs.Common.{◌≡◌, ℕ, ◌<◌, ◌≤◌, ◌*◌, length}
use Rattle.std.specs.Prelude.{vec_capacity}
use Rattle.model_line.specs.Parameters.{terminal_count}
use Rattle.run_step.specs.Inputs.{AreDelays, DelaysStand}
use Rattle.run_step.specs.{Lanes.line_lane, Shown.AreShown, Ticks.HaveCells, Ticks.AreSent}
use Rattle.run_step.specs.Ticks.{LaneStands}
use Rattle.run_ticks.proofs.net.ticks.run_ticks.Given as goal

abbrev pub invariant-loop-t : goal.invariant-loop-t
invariant-loop-t g l =
    let line = l.run.compiled.now.line.now in
    let gates = l.run.compiled.now.net.now.gates in
    let p = line_lane g.V.Signal.signal.ends l.run l.script in
    record {
      count : length l.values.items ≡ l.t * length gates;
      column_room : length gates ≤ vec_capacity l.column;
      values_room : line.horizon * length gates ≤ vec_capacity l.values;
      delays : AreDelays line l.inputs.delays.items;
      stand : DelaysStand g.V.Signal.signal l.run l.t l.inputs.delays.items;
      shown : AreShown l.script.spans.items l.inputs.shown l.t l.inputs.until;
      cells : HaveCells gates l.cells.items;
      sent : AreSent (terminal_count line) line.horizon l.t
          l.sent.items;
      lanes : (lane : ℕ) → lane < g.V.Signal.signal.lanes
          → LaneStands g.V.Signal.signal g.V.Timed.stands_for lane (p lane).world (p lane).keys
          (p lane).pairs l.t gates l.sent.items l.cells.items l.values.items;
    }
