use Rattle.std.proofs.Common.{◌≡◌, ◌<◌, ℕ, get_or}
use Rattle.model_history.specs.Rails.{single}
use Rattle.judge_match.proofs.explain.tries.is_point.Given as goal

abbrev pub invariant-loop-ends : goal.invariant-loop-ends
invariant-loop-ends l =
    (i : ℕ) → i < l.ends-index
    → (get_or l.part i (single 0)).greatest ≡ (get_or l.part i (single 0)).least
