use Rattle.std.proofs.Common.{◌≡◌, ◌-◌, ◌<◌, ◌≤◌, ℕ, length}
use Rattle.run_changes.specs.changes.PlayedTracks.{is_on}
use Rattle.run_waves.specs.waves.Waves.{wave_at}
use Rattle.judge_match.proofs.matching.recorded.track_of.Given as goal

-- on where the wave is, so far
abbrev pub invariant-stretches : goal.invariant-stretches
invariant-stretches l = record {
  runs : l.runs ≡ l.wave;
  horizon : l.track.horizon ≡ length l.wave;
  fits : length l.track.keys ≤ length l.wave;
  same : (t : ℕ) → t < length l.track.keys → is_on l.track t ≡ (wave_at l.wave t).must;
}

abbrev pub decreases-stretches : goal.decreases-stretches
decreases-stretches l = length l.wave - length l.track.keys
