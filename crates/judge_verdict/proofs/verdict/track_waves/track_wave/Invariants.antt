use Rattle.std.proofs.Common.{◌-◌, ◌≤◌, length}
use Rattle.run_waves.specs.waves.Waves.{wave_at, IsWaveOf}
use Rattle.judge_verdict.proofs.verdict.track_waves.track_wave.Given as goal

abbrev pub invariant-stretches : goal.invariant-stretches
invariant-stretches l = record {
  short : length l.wave ≤ length l.track.keys;
  values : IsWaveOf l.wave (length l.wave) (wave_at l.track.keys);
}

abbrev pub decreases-stretches : goal.decreases-stretches
decreases-stretches l = length l.track.keys - length l.wave
