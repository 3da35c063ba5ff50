use Rattle.std.proofs.Common.{ℕ, ◌<◌}
use Rattle.std.specs.Prelude.{◌↔◌, IsTrue}
use Rattle.run_changes.specs.changes.Agreeing.{AllAgreeIn, own_pairs}
use Rattle.run_changes.proofs.changes.agreeing.agreeing_tracks.Given as goal

abbrev pub invariant-loop-k : goal.invariant-loop-k
invariant-loop-k g l =
    (lane : ℕ) → lane < g.V.Signal.signal.lanes
    → (IsTrue (g.V.Signal.signal.rails l.lanes lane).must
    ↔ AllAgreeIn l.k (own_pairs g.V.Signal.signal.rails lane l.tracks) l.recorded l.from l.end)
