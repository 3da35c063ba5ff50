use Rattle.std.proofs.Common.{◌≡◌, ℕ, ◌<◌, ◌≤◌, ◌*◌, length}
use Rattle.std.specs.Prelude.{vec_capacity}
use Rattle.model_line.specs.Parameters.{terminal_count}
use Rattle.model_logic.specs.{Choice.pair_world_of, PairMean.PairSignals}
use Rattle.run_step.specs.Ticks.{AreSent}
use Rattle.run_ticks.specs.{cases.Given.span_box, cases.Masks.Levels, cases.Runs.PutUnder, cases.Runs.AreKeysUnder}
use Rattle.run_step.specs.Ticks.{HaveCells}
use Rattle.run_ticks.specs.cases.Ticks.{LaneStands, under_pairs, own_pairs}
use Rattle.run_ticks.proofs.cases.ticks.run_ticks.Given as goal

abbrev pub invariant-loop-t : goal.invariant-loop-t
invariant-loop-t g l =
    let gates = l.compiled.net.now.gates in
    let w = λ (lane : ℕ). pair_world_of l.compiled.line.now l.script (span_box g.V.Signal.signal.ends
    l.compiled.line.now l.spans lane) in
    record {
      count : length l.values.items ≡ l.t * length gates;
      own_count : length l.owns.items ≡ l.t * length gates;
      column_room : length gates ≤ vec_capacity l.column;
      own_column_room : length gates ≤ vec_capacity l.own_column;
      present_room : length l.script.spans.items ≤ vec_capacity l.present;
      values_room : l.compiled.line.now.horizon * length gates ≤ vec_capacity l.values;
      owns_room : l.compiled.line.now.horizon * length gates ≤ vec_capacity l.owns;
      cells : HaveCells gates l.cells.items;
      sent : AreSent (terminal_count l.compiled.line.now) l.compiled.line.now.horizon l.t
          l.sent.items;
      lanes : (lane : ℕ) (level : Levels) (keys : PairSignals) → lane < g.V.Signal.signal.lanes
          → PutUnder g.V.Signal.signal level l.compiled.line.now l.compiled.net.now
          l.masks
          → AreKeysUnder l.compiled.line.now (level lane) (w lane) keys
          → LaneStands g.V.Signal.signal g.V.Timed.stands_for lane (w lane) keys
          (under_pairs (level lane) (w lane) keys gates) (own_pairs (level lane) (w lane) keys gates)
          l.t gates l.sent.items l.cells.items l.values.items l.owns.items;
    }
