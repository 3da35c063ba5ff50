use Rattle.std.proofs.Common.{ℕ, ◌≤◌, ◌<◌}
use Rattle.run_step.proofs.delays.soonest.Given as goal

abbrev pub invariant-loop-lane : goal.invariant-loop-lane
invariant-loop-lane g l = record {
  some : 1 ≤ l.least;
  limited : l.least ≤ 4000;
  before : (lane : ℕ) → lane < l.lane → 1 ≤ (g.V.Signal.signal.ends l.span lane).least
      → l.least ≤ (g.V.Signal.signal.ends l.span lane).least;
}
