use Rattle.std.proofs.Common.{◌≡◌, ◌<◌, ℕ, true}
use Rattle.call_lint.specs.warnings.SweepTests.{is_near}
use Rattle.call_lint.proofs.warnings.sweeps.is_coarse.Given as goal

abbrev pub invariant-loop-k : goal.invariant-loop-k
invariant-loop-k l = (j : ℕ) → j < l.k → is_near l.time j ≡ true
