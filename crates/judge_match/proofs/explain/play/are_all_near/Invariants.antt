use Rattle.std.proofs.Common.{◌<◌, ℕ, Bool}
use Rattle.run_changes.specs.changes.PlayedTracks.{is_shown}
use Rattle.judge_match.specs.{explain.Changes.HaveSameChanges, explain.Asked.AreRecorded}
use Rattle.judge_match.proofs.explain.play.are_all_near.Given as goal

abbrev pub invariant-loop-k : goal.invariant-loop-k
invariant-loop-k l =
    (u : ℕ → ℕ → Bool) → AreRecorded l.q.compiled.line.now l.q.within u l.all → (j : ℕ) → j < l.k
    → HaveSameChanges l.q.within l.q.compiled.line.now.horizon (u j) (is_shown l.tracks j)
