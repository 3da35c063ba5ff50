use Rattle.std.proofs.Common.{◌≡◌, ◌≤◌, ◌<◌, ℕ}
use Rattle.judge_match.specs.explain.Asked.{level_in}
use Rattle.judge_match.proofs.explain.recorded.stays_at.Given as goal

abbrev pub invariant-loop-r : goal.invariant-loop-r
invariant-loop-r l =
    (r : ℕ) → l.from ≤ r → r < l.r → r ≤ l.to → level_in l.levels r ≡ l.level
