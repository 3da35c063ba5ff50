use Rattle.std.proofs.Common.{ℕ, ◌<◌}
use Rattle.std.specs.Prelude.{IsFalse}
use Rattle.run_changes.proofs.changes.agreeing.some_left.Given as goal

-- none so far
abbrev pub invariant-loop-lane : goal.invariant-loop-lane
invariant-loop-lane g l = (k : ℕ) → k < l.lane → IsFalse (g.V.Signal.signal.rails l.lanes k).must
