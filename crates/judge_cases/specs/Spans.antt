-- The intervals of views in lanes.
use Rattle.std.specs.Prelude.{◌≡◌, ◌<◌, ◌-◌, ℕ, List, Some, length, slice_get, nat_lt}
use Rattle.std.specs.Prelude.{if◌then◌else◌}
use Rattle.model_line.specs.{declared.line.Line.Line, Parameters.param_count}
use Rattle.judge_verdict.specs.boxes.Spans.{SpanLists, span_ends}
use Rattle.model_logic.specs.Boxes.{interval_of}
use Rattle.judge_cases.specs.declared.view.View.{View}

-- the number of the view in a lane; the lanes past the last view repeat it
abbrev pub view_in : ℕ → ℕ → ℕ
view_in count lane = if nat_lt lane count then lane else count - 1

-- in each lane the span is the parameter's interval in the lane's view
abbrev pub IsViewSpan : List View → ℕ → SpanLists → Type 0
IsViewSpan views param span =
    (lane : ℕ) (view : View) → lane < 64 → slice_get views (view_in (length views) lane) ≡ Some view
    → span_ends span lane ≡ interval_of view.ends.items param

-- a span for each parameter
pub record AreViewSpans (line : Line) (views : List View) (spans : List SpanLists) : Type 0 where
  pub count : length spans ≡ param_count line
  pub each : (param : ℕ) (span : SpanLists) → slice_get spans param ≡ Some span
      → IsViewSpan views param span
