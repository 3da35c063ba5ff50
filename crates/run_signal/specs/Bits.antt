-- The rails of a bit.
use Rattle.std.specs.Prelude.{ℕ, ◌==◌, Bool, List, slice_index}
use Rattle.std.specs.Int.{bit_at}
use Rattle.model_history.specs.Rails.{Rails, both, single}
use Rattle.run_signal.specs.Signals.{SignalOf}

-- whether the bit of a lane is set
abbrev pub bit_on : ℕ → ℕ → Bool
bit_on n lane = bit_at n lane == 1

-- a bit is known, so both rails are the same
abbrev pub bit_rails : ℕ → ℕ → Rails
bit_rails n lane = both (bit_on n lane)

-- 64 lanes: a value is a number of 64 bits, and a span a number of ticks for each lane
abbrev pub lanes_signal : SignalOf ℕ (List ℕ)
lanes_signal = record {
  lanes = 64;
  rails = bit_rails;
  ends = λ span lane. single (slice_index span lane);
}
