use Rattle.std.proofs.Common.{◌≡◌, Some}
use Rattle.std.specs.Prelude.{slice_get}
use Rattle.judge_verdict.specs.verdict.OneEach.{OneEach}
use Rattle.judge_borders.specs.declared.fault.PartRule.{PartRule}
use Rattle.judge_times.specs.Told.{told_by}
use Rattle.judge_times.proofs.part.told_of.Given as goal

abbrev pub invariant-loop-k : goal.invariant-loop-k
invariant-loop-k l =
    OneEach (λ k told. (rule : PartRule) → slice_get l.rules k ≡ Some rule
    → told ≡ told_by rule (slice_get l.fails k)) l.k l.told.items
