-- Spans of ticks in 64 lanes.
use Rattle.std.specs.Prelude.{◌≡◌, ◌≤◌, ◌<◌, ℕ, List, slice_index}
use Rattle.model_history.specs.Rails.{Ends}
use Rattle.run_signal.specs.Spans.{ends_of}

-- the least number of each lane, and the greatest
pub record SpanLists : Type 0 where
  pub least : List ℕ
  pub greatest : List ℕ

abbrev pub span_lists : List ℕ → List ℕ → SpanLists
span_lists least greatest = record { least = least; greatest = greatest }

-- the ends of the span in a lane
abbrev pub span_ends : SpanLists → ℕ → Ends
span_ends span lane = ends_of (slice_index span.least lane) (slice_index span.greatest lane)

-- in each lane the least is not above the greatest
abbrev pub AreOrdered : SpanLists → Type 0
AreOrdered span =
    (lane : ℕ) → lane < 64 → slice_index span.least lane ≤ slice_index span.greatest lane

-- each lane has the span of the first one
pub record AreAlike (span : SpanLists) : Type 0 where
  pub least : (lane : ℕ) → lane < 64 → slice_index span.least lane ≡ slice_index span.least 0
  pub greatest : (lane : ℕ) → lane < 64
      → slice_index span.greatest lane ≡ slice_index span.greatest 0
