use Rattle.std.proofs.Common.{◌≡◌, ◌-◌, ◌≤◌, length}
use Rattle.model_history.specs.Rails.{rails_delayed}
use Rattle.run_waves.specs.waves.Waves.{wave_at, IsWaveOf}
use Rattle.run_waves.proofs.waves.received.raw_of_some.Given as goal

abbrev pub invariant-stretches : goal.invariant-stretches
invariant-stretches l = record {
  newest : l.newest ≡ l.key;
  oldest : l.oldest ≡ l.key;
  short : length l.wave ≤ length l.key;
  values : IsWaveOf l.wave (length l.wave) (λ t. rails_delayed (wave_at l.key) l.delay t);
}

abbrev pub decreases-stretches : goal.decreases-stretches
decreases-stretches l = length l.key - length l.wave
