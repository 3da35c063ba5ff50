use Rattle.std.proofs.Common.{◌≡◌, ℕ, ◌<◌, ◌≤◌, length}
use Rattle.std.specs.Prelude.{vec_capacity}
use Rattle.model_logic.specs.PairMean.{PairWorld, PairSignals}
use Rattle.net_gates.specs.Formulas.{formula_of}
use Rattle.run_step.specs.{GatePairs.GateSignals, Ticks.ValuesAgree}
use Rattle.run_ticks.specs.{cases.Given.IsWorldAt, cases.Masks.Levels, cases.Masks.PutLevels}
use Rattle.run_step.specs.Ticks.{HaveCells, CellsWalked}
use Rattle.run_ticks.specs.cases.Ticks.{IsReady}
use Rattle.run_ticks.proofs.cases.walk.walk.Given as goal

abbrev pub invariant-loop-i : goal.invariant-loop-i
invariant-loop-i g l =
    let ends = g.V.Signal.signal.ends in
    let rails = g.V.Signal.signal.rails in
    record {
      room : length l.net.gates ≤ vec_capacity l.column;
      own_room : length l.net.gates ≤ vec_capacity l.owns;
      count : length l.column.items ≡ l.i;
      own_count : length l.owns.items ≡ l.i;
      cells : HaveCells l.net.gates l.cells.items;
      walked : (lane : ℕ) (level : Levels) (w : PairWorld) (keys : PairSignals)
          (u v : GateSignals) → lane < g.V.Signal.signal.lanes
          → PutLevels g.V.Signal.signal level (formula_of l.net.gates) l.line.horizon l.masks
          → IsWorldAt ends lane l.present l.delays w l.t
          → IsReady g.V.Signal.signal g.V.Timed.stands_for lane (level lane) w keys u v l.t l.net.gates
          l.sent l.initial.cells.items
          → (ValuesAgree rails lane u l.t l.column.items
          × ValuesAgree rails lane v l.t l.owns.items)
          × CellsWalked g.V.Signal.signal g.V.Timed.stands_for lane w u l.t l.i l.net.gates
          l.cells.items;
    }
