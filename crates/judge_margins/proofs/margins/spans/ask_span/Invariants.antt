use Rattle.std.proofs.Common.{◌≡◌, ◌≤◌, ℕ, ◌<◌, Some, length}
use Rattle.std.specs.Prelude.{slice_get, slice_index}
use Rattle.judge_margins.specs.{declared.margins.ask.Ask.Ask, margins.Asks.ask_box, margins.Asks.ask_in}
use Rattle.judge_margins.proofs.margins.spans.ask_span.Given as goal

-- the lanes so far have the ends of their asks
abbrev pub invariant-loop-lane : goal.invariant-loop-lane
invariant-loop-lane l = record {
  long : length l.least ≡ 64;
  long_too : length l.greatest ≡ 64;
  least : (k : ℕ) (ask : Ask) → k < l.lane
      → slice_get l.asks (ask_in (length l.asks) l.first k) ≡ Some ask
      → slice_index l.least k ≡ ((ask_box l.line ask).ends l.param).least;
  greatest : (k : ℕ) (ask : Ask) → k < l.lane
      → slice_get l.asks (ask_in (length l.asks) l.first k) ≡ Some ask
      → slice_index l.greatest k ≡ ((ask_box l.line ask).ends l.param).greatest;
  ordered : (k : ℕ) → k < l.lane → slice_index l.least k ≤ slice_index l.greatest k;
}
