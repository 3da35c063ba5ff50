-- The first ticks of a trip, and the inception of a fault.
use Rattle.std.specs.Prelude.{◌&&◌, ℕ, Bool, true, false, List, nat_le, nat_lt}
use Rattle.std.specs.List.{list_any}
use Rattle.model_history.specs.Rails.{Rails}
use Rattle.model_line.specs.declared.script.Element.TheVariants.{Z1, Z2, Rv, Uv, Cur}
use Rattle.model_line.specs.{declared.script.Element.Element, declared.script.Script.Script}
use Rattle.model_line.specs.{declared.script.SeenSpan.SeenSpan, declared.script.What.What}
use Rattle.model_line.specs.declared.script.What.TheVariants as what
use Rattle.draw_run.specs.declared.diagram.times.TripTimes.{TripTimes}
use Rattle.run_waves.specs.waves.FirstTick.{first_on}
use Rattle.judge_report.specs.Deadlines.{margin_of}

-- the times of a trip with these pairs
abbrev pub trip_times_of : Script → ℕ → (ℕ → Rails) → TripTimes
trip_times_of script horizon trip = record {
  first_may = first_on (λ t. (trip t).may) horizon;
  first_must = first_on (λ t. (trip t).must) horizon;
  margin = margin_of script.kind script.deadline (first_on (λ t. (trip t).must) horizon);
}

-- current alone is no fault
abbrev pub is_of_fault : Element → Bool
is_of_fault Z1 = true
is_of_fault Z2 = true
is_of_fault Rv = true
is_of_fault Uv = true
is_of_fault Cur = false

abbrev pub is_fault_seen : What → Bool
is_fault_seen (what.Element place) = is_of_fault place.element
is_fault_seen (what.Loss c) = false

-- the span shows a fault, and holds t
abbrev pub shows_fault : ℕ → SeenSpan → Bool
shows_fault t s = is_fault_seen s.what && (nat_le s.from t && nat_lt t s.to)

-- some span shows a fault, and holds t
abbrev pub is_begun : List SeenSpan → ℕ → Bool
is_begun spans t = list_any (shows_fault t) spans
