-- A timing is one choice of a box, and the run over it is the history at that choice.
use Rattle.std.proofs.Common.{◌≡◌, ℕ, ◌<◌, ◌≤◌}
use Rattle.std.proofs.Common.{length, Option, Some, None, refl, sym, ◌∙◌, ap, subst}
use Rattle.std.proofs.lemmas.Option.{unwrap_or-slice_get, get_or_from_slice_get}
use Rattle.std.specs.Prelude.{slice_get, option_map, unwrap_or}
use Rattle.model_history.specs.Rails.{Ends, single}
use Rattle.model_line.specs.Parameters.{param_count, delay_param}
use Rattle.model_line.specs.declared.line.Line.{Line}
use Rattle.model_logic.specs.{Choice.DelaysFromOne, Laws.LineLaws}
use Rattle.model_timing.specs.{Timing.TimingValues, Timing.number_at}
use Rattle.model_timing.specs.{Inside.IsTimingInside, Choice.timing_choice}
use Rattle.run_signal.specs.Levels.{level_signal}
use Rattle.run_step.specs.LaneBox.{ends_in, lane_box}
use Rattle.run_step.specs.{Runs.AreDelayed, Runs.IsPoint, Played.ends_of_tick}
use Rattle.model_history.specs.ListLaws.{exists_at}

ends_single : (lane : ℕ) (o : Option ℕ) → ends_in ends_of_tick lane o ≡ single (unwrap_or o 0)
ends_single lane None = refl
ends_single lane (Some s) = refl

-- ---- the box of a timing's numbers and steps

module _ (laws : LineLaws) (line : Line) (timing : TimingValues) (lane : ℕ)
    (count : length timing.values ≡ param_count line) where
  -- each interval of it is the number of the timing's choice
  pub timing_point : IsPoint line (lane_box ends_of_tick line timing.values timing.steps lane)
      (timing_choice line timing)
  unfolding lane_box timing_choice
  timing_point = record {
    numbers = λ i lt.
        ends_single lane (slice_get timing.values i)
        ∙ ap single (unwrap_or-slice_get timing.values i 0);
    delays = λ c t lt early.
        let p : ℕ = delay_param line c in
        let there : p < length timing.values =
        subst (λ (n : ℕ). p < n) (sym count) (laws.parameters.delays line c lt) in
        let (own, at) = exists_at timing.values p there in
        ap (λ (o : Option ℕ). ends_in ends_of_tick lane
        (option_map (number_at timing.steps p t) o)) at
        ∙ ap (λ (v : ℕ). single (number_at timing.steps p t v))
        (sym (get_or_from_slice_get timing.values p own 0 at));
  }

-- each delay of it is at least 1
pub timing_delayed : (laws : LineLaws) (line : Line) (timing : TimingValues)
    → IsTimingInside line timing → DelaysFromOne line (timing_choice line timing)
    → AreDelayed level_signal line timing.values timing.steps
timing_delayed laws line timing inside from_one lane below c t lt early =
    subst (λ (e : Ends). 1 ≤ e.least)
    (sym ((timing_point laws line timing lane inside.count).delays c t lt early))
    (from_one c t lt early)
