use Rattle.std.proofs.Common.{◌≡◌, ◌-◌, ◌≤◌, length}
use Rattle.model_history.specs.Rails.{rails_not}
use Rattle.run_waves.specs.waves.Waves.{wave_at, IsWaveOf}
use Rattle.run_waves.proofs.waves.gates.not.Given as goal

abbrev pub invariant-stretches : goal.invariant-stretches
invariant-stretches l = record {
  inputs : l.inputs ≡ l.a;
  short : length l.wave ≤ length l.a;
  values : IsWaveOf l.wave (length l.wave) (λ t. rails_not (wave_at l.a t));
}

abbrev pub decreases-stretches : goal.decreases-stretches
decreases-stretches l = length l.a - length l.wave
