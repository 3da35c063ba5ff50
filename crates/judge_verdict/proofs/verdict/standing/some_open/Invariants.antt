use Rattle.std.proofs.Common.{◌≢◌, ℕ, ◌<◌, Some}
use Rattle.std.specs.Prelude.{slice_get}
use Rattle.judge_verdict.specs.declared.verdict.standing.Standing.TheVariants.{Open}
use Rattle.judge_verdict.proofs.verdict.standing.some_open.Given as goal

-- none so far
abbrev pub invariant-loop-standing : goal.invariant-loop-standing
invariant-loop-standing l =
    (k : ℕ) → k < l.standing-index → slice_get l.standings k ≢ Some Open
