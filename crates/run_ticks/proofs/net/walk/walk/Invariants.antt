use Rattle.std.proofs.Common.{◌≡◌, ℕ, ◌<◌, ◌≤◌, length}
use Rattle.std.specs.Prelude.{vec_capacity}
use Rattle.model_logic.specs.PairMean.{PairWorld, PairSignals}
use Rattle.run_step.specs.Ticks.{HaveCells, CellsWalked, ValuesAgree, IsReady}
use Rattle.run_step.specs.{GatePairs.GateSignals, Inputs.IsWorldAt}
use Rattle.run_ticks.proofs.net.walk.walk.Given as goal

abbrev pub invariant-loop-i : goal.invariant-loop-i
invariant-loop-i g l =
    let ends = g.V.Signal.signal.ends in
    let rails = g.V.Signal.signal.rails in
    record {
      room : length l.net.gates ≤ vec_capacity l.column;
      count : length l.column.items ≡ l.i;
      cells : HaveCells l.net.gates l.cells.items;
      walked : (lane : ℕ) (w : PairWorld) (keys : PairSignals) (u : GateSignals)
          → lane < g.V.Signal.signal.lanes
          → IsWorldAt ends lane l.present l.moment.delays.now w l.moment.t
          → IsReady g.V.Signal.signal g.V.Timed.stands_for lane w keys u l.moment.t l.net.gates
          l.moment.sent.now
          l.initial.cells.items
          → ValuesAgree rails lane u l.moment.t l.column.items
          × CellsWalked g.V.Signal.signal g.V.Timed.stands_for lane w u l.moment.t l.i l.net.gates
          l.cells.items;
    }
