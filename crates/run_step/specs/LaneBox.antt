-- The box that a run's spans and steps are in a lane.
use Rattle.std.specs.Prelude.{ℕ, List, Option, Some, None, slice_get, option_map}
use Rattle.model_history.specs.Rails.{Ends, single}
use Rattle.model_logic.specs.Choice.{Box, ends_by, pair_world_of}
use Rattle.model_logic.specs.{declared.time.Time.Time, PairMean.PairWorld}
use Rattle.model_line.specs.{declared.line.Line.Line, declared.script.Script.Script}
use Rattle.model_line.specs.Parameters.{delay_param}
use Rattle.model_timing.specs.{declared.step.Step.Step, Timing.number_at}

-- the ends of a span in a lane; where there is no span, those of 0
abbrev pub ends_in : {S : Type 0} → (S → ℕ → Ends) → ℕ → Option S → Ends
ends_in ends lane None = single 0
ends_in ends lane (Some span) = ends span lane

-- the ends of a span that is an interval itself, in every lane
abbrev pub own_span : Ends → ℕ → Ends
own_span span lane = span

-- the ends of a parameter's own span
abbrev pub own_ends : {S : Type 0} → (S → ℕ → Ends) → ℕ → List S → ℕ → Ends
own_ends ends lane spans i = ends_in ends lane (slice_get spans i)

-- the ends of a parameter's span at tick t: that of its step with the greatest `from` not after t,
-- else its own
abbrev pub ends_at : {S : Type 0} → (S → ℕ → Ends) → ℕ → List S → List (Step S) → ℕ → ℕ → Ends
ends_at ends lane spans steps i t =
    ends_in ends lane (option_map (number_at steps i t) (slice_get spans i))

-- a lane's box: each parameter has the ends of its own span, and each channel at each tick those of
-- its delay's span at that tick
unfoldable pub lane_box : {S : Type 0} → (S → ℕ → Ends) → Line → List S → List (Step S) → ℕ → Box
lane_box ends line spans steps lane = record {
  ends = own_ends ends lane spans;
  delay = λ c t. ends_at ends lane spans steps (delay_param line c) t;
}

-- the ends of a pickup or dropout
abbrev pub time_ends : {S : Type 0} → (S → ℕ → Ends) → ℕ → List S → Time → Ends
time_ends ends lane spans time = ends_by (own_ends ends lane spans) time

-- a line and its script over a lane's box
abbrev pub lane_world : {S : Type 0} → (S → ℕ → Ends) → Line → Script → List S → List (Step S)
    → ℕ → PairWorld
lane_world ends line script spans steps lane =
    pair_world_of line script (lane_box ends line spans steps lane)
