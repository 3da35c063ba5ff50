use Rattle.std.proofs.Common.{◌≡◌, ℕ, ◌+◌, ◌-◌, ◌<◌, ◌≤◌, length}
use Rattle.model_history.specs.Rails.{rails_delayed}
use Rattle.run_waves.specs.waves.Waves.{wave_at}
use Rattle.run_waves.proofs.waves.received.raw_until.Given as goal

-- the same at every tick so far
abbrev pub invariant-stretches : goal.invariant-stretches
invariant-stretches l = record {
  newest : l.newest ≡ l.key;
  oldest : l.oldest ≡ l.key;
  later : l.fn.t < l.end;
  limited : l.end ≤ length l.key + l.delay.least;
  same : (k : ℕ) → l.fn.t ≤ k → k < l.end
      → rails_delayed (wave_at l.key) l.delay k ≡ rails_delayed (wave_at l.key) l.delay l.fn.t;
}

abbrev pub decreases-stretches : goal.decreases-stretches
decreases-stretches l = l.last - l.end
