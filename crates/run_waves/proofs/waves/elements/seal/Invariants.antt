use Rattle.std.proofs.Common.{◌≡◌, ◌-◌, ◌≤◌, length}
use Rattle.model_history.specs.Rails.{rails_sealed}
use Rattle.run_signal.specs.Terns.{tern_rails}
use Rattle.run_signal.specs.Seals.{last_seal}
use Rattle.run_waves.specs.waves.Waves.{wave_at, IsWaveOf}
use Rattle.run_waves.proofs.waves.elements.seal.Given as goal

abbrev pub invariant-stretches : goal.invariant-stretches
invariant-stretches l = record {
  sets : l.sets ≡ l.set;
  holds : l.holds ≡ l.hold;
  short : length l.wave ≤ length l.set;
  values : IsWaveOf l.wave (length l.wave) (λ t. rails_sealed (wave_at l.set) (wave_at l.hold) t);
  last : tern_rails l.cell ≡ last_seal (wave_at l.set) (wave_at l.hold) (length l.wave);
}

abbrev pub decreases-stretches : goal.decreases-stretches
decreases-stretches l = length l.set - length l.wave
