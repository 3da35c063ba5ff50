use Rattle.std.proofs.Common.{◌≡◌, ◌-◌, ℕ, ◌<◌, length}
use Rattle.model_history.specs.Rails.{RailsCover}
use Rattle.run_waves.specs.waves.Waves.{wave_at}
use Rattle.run_waves.proofs.derived.cover.first_uncovered_tick.Given as goal

-- covered at every tick so far
abbrev pub invariant-stretches : goal.invariant-stretches
invariant-stretches l = record {
  wides : l.wides ≡ l.wide;
  narrows : l.narrows ≡ l.narrow;
  covered : (t : ℕ) → t < l.t → RailsCover (wave_at l.wide t) (wave_at l.narrow t);
}

abbrev pub decreases-stretches : goal.decreases-stretches
decreases-stretches l = length l.wide - l.t
