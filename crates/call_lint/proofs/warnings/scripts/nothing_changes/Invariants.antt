use Rattle.std.proofs.Common.{◌≡◌, ◌<◌, ℕ, true}
use Rattle.call_lint.specs.warnings.ScriptTests.{all_stay}
use Rattle.call_lint.proofs.warnings.scripts.nothing_changes.Given as goal

abbrev pub invariant-loop-t : goal.invariant-loop-t
invariant-loop-t l = (k : ℕ) → k < l.t → all_stay l.spans k ≡ true
