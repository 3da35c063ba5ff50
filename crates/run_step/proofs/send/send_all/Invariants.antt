use Rattle.std.proofs.Common.{◌≡◌, ℕ, ◌<◌, ◌≤◌, ◌+◌, length, Some}
use Rattle.std.specs.Prelude.{slice_get}
use Rattle.model_logic.specs.PairMean.{PairSignals}
use Rattle.run_step.specs.Ticks.{PartDone, HasKeys, HasSent, KeysSent}
use Rattle.net_gates.specs.NetOf.{id_at}
use Rattle.run_step.proofs.send.send_all.Given as goal

abbrev pub invariant-loop-k : goal.invariant-loop-k
invariant-loop-k g l =
    let rails = g.V.Signal.signal.rails in
    record {
      count : length l.tracks.items ≡ length l.gates;
      long : PartDone (HasKeys l.horizon (l.t + l.count)) (HasKeys l.horizon l.t) l.k
          l.tracks.items;
      sent : (lane : ℕ) (keys : PairSignals) → lane < g.V.Signal.signal.lanes
          → ((k : ℕ) (x : _) → k < length l.gates
          → slice_get l.column (id_at l.gates k) ≡ Some x
          → (r : ℕ) → l.t ≤ r → r < l.t + l.count → keys k r ≡ rails x lane)
          → KeysSent rails lane keys l.t l.initial.tracks.items
          → PartDone (HasSent rails lane keys (l.t + l.count)) (HasSent rails lane keys l.t) l.k
          l.tracks.items;
    }
