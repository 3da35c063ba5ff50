-- Spans of ticks in 64 lanes.
use Rattle.std.proofs.Common.{◌≡◌, ◌≤◌, ◌<◌, ℕ, List, subst}
use Rattle.std.specs.Prelude.{slice_index}
use Rattle.run_signal.specs.Spans.{InOrderInEachLane}
use Rattle.judge_verdict.specs.boxes.Spans.{SpanLists, span_lists, span_ends, AreOrdered}

-- a span whose numbers are limited is in order in each lane
pub in_order : (span : SpanLists) (least greatest : List ℕ) → span_lists least greatest ≡ span
    → AreOrdered (span_lists least greatest)
    → ((lane : ℕ) → lane < 64 → slice_index greatest lane ≤ 4000)
    → InOrderInEachLane 64 (span_ends span)
in_order span least greatest is ordered limited =
    subst (λ (x : SpanLists). InOrderInEachLane 64 (span_ends x)) is
    (λ lane inside. record { ordered = ordered lane inside; limited = limited lane inside })
