use Rattle.std.proofs.Common.{◌<◌, ℕ, get_or}
use Rattle.judge_match.specs.explain.Changes.{AreNear}
use Rattle.judge_match.proofs.explain.changes.are_near.Given as goal

abbrev pub invariant-loop-i : goal.invariant-loop-i
invariant-loop-i l =
    (j : ℕ) → j < l.i → AreNear l.within (get_or l.recorded j 0) (get_or l.played j 0)
