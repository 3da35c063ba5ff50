use Rattle.std.proofs.Common.{◌≡◌, ℕ, ◌-◌, ◌≤◌, ◌<◌, IsFalse}
use Rattle.model_history.specs.{Rails.Rails, Recorded.first_ticks}
use Rattle.run_signal.specs.{Bits.bit_on, Lanes.in_lane}
use Rattle.run_step.specs.Lasts.{ArrivesAs, EndStays}
use Rattle.run_changes.proofs.changes.arrivals.arrival_stays.Given as goal

-- what arrives in the lanes that are not left stays; those that are passed are not left
abbrev pub invariant-next_span : goal.invariant-next_span
invariant-next_span g l = record {
  some : 1 ≤ l.stays;
  limited : l.stays ≤ 4000;
  last : 1 ≤ l.last → EndStays g.V.Signal.signal l.key.keys l.t l.last l.stays;
  few : 1 ≤ l.lane → g.V.Signal.signal.lanes ≤ 64;
  passed : (k : ℕ) → k < 64 → k < l.lane → IsFalse (bit_on l.left k);
  keeps : (k : ℕ) → k < g.V.Signal.signal.lanes → k < 64 → IsFalse (bit_on l.left k) → (u : ℕ → Rails)
      → in_lane g.V.Signal.signal.rails k l.key.keys ≡ first_ticks u l.t
      → ArrivesAs u (g.V.Signal.signal.ends l.delay k) (l.t - 1) l.t l.stays;
}

abbrev pub decreases-next_span : goal.decreases-next_span
decreases-next_span g l = l.lanes - l.lane
