-- The run of a block is that of the candidates in its lanes.
use Rattle.std.proofs.Common.{◌≡◌, ℕ, ◌<◌, ◌≤◌, List, [], Option, Some, None, sym, ap, subst}
use Rattle.std.specs.Prelude.{slice_get, slice_index, option_map}
use Rattle.model_history.specs.Rails.{Ends, single}
use Rattle.model_line.specs.Parameters.{param_count, delay_param}
use Rattle.model_line.specs.{declared.line.Line.Line, Laws.ParametersAreNumbered}
use Rattle.model_logic.specs.Choice.{DelaysFromOne}
use Rattle.model_timing.specs.Candidates.{candidate, candidate_count}
use Rattle.model_timing.specs.Blocks.{candidate_in, AreBlockSpans}
use Rattle.model_timing.specs.BlockLaws.{candidate_exists, in_span, block_number, block_delay}
use Rattle.model_timing.specs.{Timing.number_at, Choice.timing_choice}
use Rattle.run_signal.specs.Bits.{lanes_signal}
use Rattle.run_step.specs.LaneBox.{ends_in, lane_box}
use Rattle.run_step.specs.{Runs.AreDelayed, Runs.IsPoint}

-- the ends of a span in a lane
abbrev pub lane_ends : List ℕ → ℕ → Ends
lane_ends span lane = single (slice_index span lane)

single_in : (lane n : ℕ) (o : Option (List ℕ)) → in_span lane o ≡ Some n
    → ends_in lane_ends lane o ≡ single n
single_in lane n None is = absurd (cc)
single_in lane n (Some span) is = let same : slice_index span lane ≡ n = cc in ap single same

module _ (numbered : ParametersAreNumbered) (line : Line) (first : ℕ) (spans : List (List ℕ))
    (are : AreBlockSpans line first (param_count line) spans) where
  -- the box of a lane holds the choice of the lane's candidate alone
  pub block_point : (lane : ℕ) → lane < 64
      → IsPoint line (lane_box lane_ends line spans [] lane)
      (timing_choice line (candidate line (candidate_in line first lane)))
  unfolding lane_box
  block_point lane inside = record {
    numbers = λ i there.
        single_in lane _ (slice_get spans i) (block_number line first spans are lane i inside there);
    delays = λ c t there early.
        single_in lane _
        (option_map (number_at [] (delay_param line c) t) (slice_get spans (delay_param line c)))
        (block_delay line first spans are numbered lane c t inside there);
  }

  pub block_delayed
      : ((i : ℕ) → i < candidate_count line
      → DelaysFromOne line (timing_choice line (candidate line i)))
      → AreDelayed lanes_signal line spans []
  block_delayed from_one lane inside c t there early =
      subst (λ (e : Ends). 1 ≤ e.least) (sym ((block_point lane inside).delays c t there early))
      (from_one (candidate_in line first lane) (candidate_exists line first lane) c t there early)
