use Rattle.std.proofs.Common.{◌≡◌, ◌≤◌, ◌<◌, ◌-◌, ℕ, length}
use Rattle.std.specs.Prelude.{IsTrue}
use Rattle.run_waves.specs.waves.Waves.{wave_at}
use Rattle.judge_races.proofs.stretch.off_from.Given as goal

abbrev pub invariant-stretches : goal.invariant-stretches
invariant-stretches l = record {
  along : l.cursor ≡ l.wave;
  later : l.from ≤ l.t;
  within : l.t ≤ length l.wave;
  on : (s : ℕ) → l.from ≤ s → s < l.t → IsTrue (wave_at l.wave s).may;
}

abbrev pub decreases-stretches : goal.decreases-stretches
decreases-stretches l = length l.wave - l.t
