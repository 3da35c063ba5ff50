use Rattle.std.proofs.Common.{◌≡◌, ◌-◌, ◌≤◌, Bool}
use Rattle.model_history.specs.Rails.{Rails}
use Rattle.run_waves.specs.waves.Waves.{wave_at, Tells}
use Rattle.run_waves.specs.waves.FirstTick.{IsOffFrom}
use Rattle.run_waves.proofs.waves.first.first_from.Given as goal

-- off at every tick so far
abbrev pub invariant-stretches : goal.invariant-stretches
invariant-stretches g l = record {
  along : l.wave ≡ l.fn.wave;
  later : l.from ≤ l.t;
  off : (rail : Rails → Bool) → Tells (goal.F-post g l.is) rail
      → IsOffFrom (λ r. rail (wave_at l.fn.wave r)) l.from l.t;
}

abbrev pub decreases-stretches : goal.decreases-stretches
decreases-stretches g l = l.end - l.t
