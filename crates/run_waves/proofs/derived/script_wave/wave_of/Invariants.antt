use Rattle.std.proofs.Common.{◌-◌, ◌≤◌, length}
use Rattle.model_history.specs.Rails.{both}
use Rattle.run_waves.specs.derived.Stretches.{holds}
use Rattle.run_waves.specs.waves.Waves.{IsWaveOf}
use Rattle.run_waves.proofs.derived.script_wave.wave_of.Given as goal

abbrev pub invariant-stretches : goal.invariant-stretches
invariant-stretches l = record {
  short : length l.wave ≤ l.horizon;
  values : IsWaveOf l.wave (length l.wave) (λ t. both (holds l.script.spans.items l.what t));
}

abbrev pub decreases-stretches : goal.decreases-stretches
decreases-stretches l = l.horizon - length l.wave
