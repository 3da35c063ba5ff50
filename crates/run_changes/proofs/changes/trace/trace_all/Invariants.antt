use Rattle.std.proofs.Common.{◌≡◌, ℕ, ◌<◌, ◌≤◌, ◌+◌, ◌-◌, length}
use Rattle.std.specs.Prelude.{slice_get, Some}
use Rattle.net_gates.specs.declared.gate.Gate.{Gate}
use Rattle.run_step.specs.{Lanes.LanePairs, Lasts.Lasts}
use Rattle.run_changes.specs.changes.Lags.{AreAtGate, IsGivenAt, IsTraced}
use Rattle.run_changes.proofs.changes.trace.trace_all.Given as goal

abbrev pub invariant-loop-i : goal.invariant-loop-i
invariant-loop-i g l =
    let gates = l.net.gates in
    let t = l.moment.t in
    record {
      inside : l.i ≤ length gates;
      at_gate : AreAtGate l.net t l.i l.gates;
      next : l.gates.marks.next ≡ t + 1;
      horizon : l.gates.marks.horizon ≡ l.initial.gates.marks.horizon;
      traced : (lane : ℕ) (p : LanePairs) → lane < g.V.Signal.signal.lanes
          → IsGivenAt g.V.Signal.signal lane p gates l.shown l.moment
          → IsTraced g.V.Signal.signal g.V.Timed.stands_for lane p t 0 gates l.initial.gates
          → IsTraced g.V.Signal.signal g.V.Timed.stands_for lane p t l.i gates l.gates;
      lasts : (p : ℕ → LanePairs)
          → ((lane : ℕ) → lane < g.V.Signal.signal.lanes
          → IsGivenAt g.V.Signal.signal lane (p lane) gates l.shown l.moment
          × IsTraced g.V.Signal.signal g.V.Timed.stands_for lane (p lane) t 0 gates l.initial.gates)
          → (lane i : ℕ) (gate : Gate) (due : ℕ) → lane < g.V.Signal.signal.lanes → i < l.i
          → slice_get gates i ≡ Some gate → slice_get l.gates.dues.items i ≡ Some due
          → Lasts (p lane) (t - 1) t (due - t) gate;
    }

abbrev pub decreases-loop-i : goal.decreases-loop-i
decreases-loop-i g l = length l.net.gates - l.i
