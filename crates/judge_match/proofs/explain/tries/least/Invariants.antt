use Rattle.std.proofs.Common.{◌≡◌, ◌<◌, ℕ, length, get_or}
use Rattle.model_history.specs.Rails.{single}
use Rattle.judge_match.proofs.explain.tries.least.Given as goal

abbrev pub invariant-loop-ends : goal.invariant-loop-ends
invariant-loop-ends l = record {
  count : length l.values.items ≡ l.ends-index;
  each : (i : ℕ) → i < l.ends-index
      → get_or l.values.items i 0 ≡ (get_or l.part i (single 0)).least;
}
