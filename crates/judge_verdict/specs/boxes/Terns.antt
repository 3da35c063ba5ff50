-- The rails of a value in each of 64 lanes.
use Rattle.std.specs.Prelude.{◌||◌, ℕ}
use Rattle.model_history.specs.Rails.{Rails}
use Rattle.run_signal.specs.{Bits.bit_on, Signals.SignalOf}
use Rattle.judge_verdict.specs.boxes.Spans.{SpanLists, span_ends}
use Rattle.judge_verdict.specs.declared.boxes.terns.Terns64.{Terns64}

-- it must be on where `must` is, and may be on where `must` or `may` is
abbrev pub terns_rails : Terns64 → ℕ → Rails
terns_rails x lane = record {
  must = bit_on x.must lane;
  may = bit_on x.must lane || bit_on x.may lane;
}

-- 64 lanes, in each of which a span is its two ends
abbrev pub terns_signal : SignalOf Terns64 SpanLists
terns_signal = record { lanes = 64; rails = terns_rails; ends = span_ends }
