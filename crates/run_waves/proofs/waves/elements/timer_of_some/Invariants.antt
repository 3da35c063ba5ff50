use Rattle.std.proofs.Common.{◌≡◌, ◌-◌, ◌≤◌, length}
use Rattle.model_history.specs.{Rails.rails_timed, Recorded.first_ticks}
use Rattle.run_signal.specs.Cells.{RailsStandFor}
use Rattle.run_waves.specs.waves.Waves.{wave_at, IsWaveOf}
use Rattle.run_waves.proofs.waves.elements.timer_of_some.Given as goal

abbrev pub invariant-stretches : goal.invariant-stretches
invariant-stretches l = record {
  inputs : l.inputs ≡ l.a;
  short : length l.wave ≤ length l.a;
  values : IsWaveOf l.wave (length l.wave)
      (λ t. rails_timed (wave_at l.a) l.fn.pickup l.fn.dropout t);
  stand : RailsStandFor l.cells.must l.cells.may l.fn.pickup l.fn.dropout
      (first_ticks (wave_at l.a) (length l.wave));
}

abbrev pub decreases-stretches : goal.decreases-stretches
decreases-stretches l = length l.a - length l.wave
