use Rattle.std.proofs.Common.{ℕ, ◌≤◌, ◌<◌, IsTrue}
use Rattle.model_history.specs.Recorded.{at}
use Rattle.model_history.proofs.plain.is_on_throughout.Given as goal

abbrev pub invariant-loop-tick : goal.invariant-loop-tick
invariant-loop-tick l = (r : ℕ) → l.first ≤ r → r < l.tick → IsTrue (at l.recorded r)
