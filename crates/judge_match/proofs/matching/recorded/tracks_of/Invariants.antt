use Rattle.std.proofs.Common.{◌≡◌, ◌<◌, ℕ}
use Rattle.run_changes.specs.changes.PlayedTracks.{is_shown}
use Rattle.run_step.specs.Ticks.{AreSent}
use Rattle.run_waves.specs.derived.Claims.{pairs_of}
use Rattle.judge_match.proofs.matching.recorded.tracks_of.Given as goal

abbrev pub invariant-loop-k : goal.invariant-loop-k
invariant-loop-k l = record {
  sent : AreSent l.k l.line.horizon l.line.horizon l.tracks.items;
  same : (k t : ℕ) → k < l.k → t < l.line.horizon
      → is_shown l.tracks.items k t ≡ (pairs_of l.waves k t).must;
}
