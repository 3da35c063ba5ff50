use Rattle.std.proofs.Common.{◌≡◌, ℕ, Some, length}
use Rattle.std.specs.Prelude.{slice_get}
use Rattle.run_waves.specs.derived.Claims.{pairs_of}
use Rattle.judge_match.specs.explain.Asked.{IsRecorded}
use Rattle.judge_match.specs.declared.explain.recorded.Recorded.{Recorded}
use Rattle.judge_match.proofs.explain.recorded.kept_of.Given as goal

abbrev pub invariant-loop-k : goal.invariant-loop-k
invariant-loop-k l = record {
  count : length l.all.items ≡ l.k;
  each : (k : ℕ) (r : Recorded) → slice_get l.all.items k ≡ Some r
      → IsRecorded l.within l.line.horizon (λ t. (pairs_of l.waves k t).must) r;
}
