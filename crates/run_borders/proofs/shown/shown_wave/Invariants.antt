use Rattle.std.proofs.Common.{◌-◌, ◌≤◌, length}
use Rattle.run_waves.specs.waves.Waves.{IsWaveOf}
use Rattle.run_borders.specs.LooseWaves.{shown_rails}
use Rattle.run_borders.proofs.shown.shown_wave.Given as goal

abbrev pub invariant-stretches : goal.invariant-stretches
invariant-stretches l = record {
  short : length l.wave ≤ l.horizon;
  values : IsWaveOf l.wave (length l.wave) (shown_rails l.run l.what);
}

abbrev pub decreases-stretches : goal.decreases-stretches
decreases-stretches l = l.horizon - length l.wave
