use Rattle.std.proofs.Common.{◌≡◌, ℕ, ◌-◌, ◌<◌, ◌≤◌, length, slice_index, IsFalse}
use Rattle.model_history.specs.Rails.{single, rails_at, rails_delayed}
use Rattle.run_signal.specs.{Bits.bit_on, Bits.bit_rails, Lanes.in_lane}
use Rattle.run_signal.proofs.carried_lanes.Lanes64Carried.arrive.Given as goal

-- the lanes that are not left have what is received in them; those that are passed are not left
abbrev pub invariant-next_delay : goal.invariant-next_delay
invariant-next_delay l = record {
  within : l.lane ≤ 64;
  passed : (k : ℕ) → k < 64 → k < l.lane → IsFalse (bit_on l.left k);
  received : (k : ℕ) → k < 64 → IsFalse (bit_on l.left k)
      → bit_rails l.received k
      ≡ rails_delayed (rails_at (in_lane bit_rails k l.sent.keys)) (single (slice_index l.delay k))
      (length l.sent.keys);
}

abbrev pub decreases-next_delay : goal.decreases-next_delay
decreases-next_delay l = 64 - l.lane
