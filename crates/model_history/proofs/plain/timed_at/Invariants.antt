use Rattle.std.proofs.Common.{ℕ, ◌-◌, ◌≤◌, ◌<◌}
use Rattle.model_history.specs.{Elements.Holds, Recorded.at}
use Rattle.model_history.proofs.plain.timed_at.Given as goal

abbrev pub invariant-loop-start : goal.invariant-loop-start
invariant-loop-start l =
    (s : ℕ) → l.tick - l.dropout ≤ s → s < l.start → Holds (at l.recorded) l.pickup s → ⊥
