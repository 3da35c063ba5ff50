use Rattle.std.proofs.Common.{◌≡◌, ◌<◌, ℕ, Some}
use Rattle.std.specs.Prelude.{slice_get}
use Rattle.model_settle.specs.Assumed.{Assumption}
use Rattle.judge_cases.specs.Excluded.{ExcludedIn}
use Rattle.judge_cases.proofs.analysis.is_excluded.Given as goal

-- none so far is excluded
abbrev pub invariant-loop-i : goal.invariant-loop-i
invariant-loop-i l = (j : ℕ) (a : Assumption) → j < l.i → slice_get l.assumed j ≡ Some a
    → ExcludedIn l.compiled.line.now l.compiled.net.now l.lane l.waves a → ⊥
