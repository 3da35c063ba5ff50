use Rattle.std.proofs.Common.{ℕ, ◌+◌, ◌<◌, IsTrue}
use Rattle.model_history.specs.Recorded.{at}
use Rattle.model_history.proofs.PlainLaws.{OnThroughout}
use Rattle.model_history.proofs.plain.sealed_at.Given as goal

abbrev pub invariant-loop-start : goal.invariant-loop-start
invariant-loop-start l =
    (s : ℕ) → s < l.start → IsTrue (at l.set s) → OnThroughout (at l.keep) (s + 1) l.tick → ⊥
