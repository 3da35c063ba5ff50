use Rattle.std.proofs.Common.{◌≡◌, ◌-◌, ◌≤◌, length}
use Rattle.model_history.specs.Rails.{Rails}
use Rattle.run_waves.specs.waves.Waves.{wave_at, IsWaveOf, Combines, Decides}
use Rattle.run_waves.proofs.waves.gates.merged.Given as goal

abbrev pub invariant-stretches : goal.invariant-stretches
invariant-stretches g l = record {
  firsts : l.firsts ≡ l.a;
  seconds : l.seconds ≡ l.b;
  short : length l.wave ≤ length l.a;
  values : (rails : Rails → Rails → Rails) → Combines (goal.F-post g l.op) rails
      → Decides rails l.decides
      → IsWaveOf l.wave (length l.wave) (λ t. rails (wave_at l.a t) (wave_at l.b t));
}

abbrev pub decreases-stretches : goal.decreases-stretches
decreases-stretches g l = length l.a - length l.wave
