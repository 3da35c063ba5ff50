-- Candidates in the lanes of a block.
use Rattle.std.proofs.Common.{◌≡◌, ℕ, ◌+◌, ◌-◌, ◌<◌, ◌≤◌, List, [], get_or, Option, Some}
use Rattle.std.proofs.Common.{None, refl, sym, ◌∙◌, ap, arith}
use Rattle.std.proofs.lemmas.Bool.Decides.{nat_tests}
use Rattle.std.proofs.lemmas.List.FromFn.{get_or-map-range_with_len}
use Rattle.std.proofs.lemmas.List.Sums.{count_by-le-length}
use Rattle.std.proofs.lemmas.Option.{slice_get-get_or}
use Rattle.std.specs.Prelude.{slice_get, slice_index, option_map, nat_lt, if◌then◌else◌}
use Rattle.model_line.specs.Parameters.{param_count, channel_count, delay_param}
use Rattle.model_line.specs.{declared.line.Line.Line, Laws.ParametersAreNumbered}
use Rattle.model_timing.specs.Candidates.{is_free, candidate, candidate_count, candidate_value}
use Rattle.model_timing.specs.{Timing.number_at, Choice.timing_choice}
use Rattle.model_timing.specs.Blocks.{candidate_in, AreBlockSpans}

-- ---- the numbers of candidates

pub few_candidates : ParametersAreNumbered → (line : Line) → candidate_count line ≤ 128
few_candidates numbered line =
    let few : param_count line ≤ 63 = numbered.few line in
    let free = count_by-le-length is_free line.params.items in
    omega arith

clamped_below : (n count : ℕ) → 1 ≤ count → (if nat_lt n count then n else count - 1) < count
clamped_below n count some = grind (arith, nat_tests)

clamped_inside : (n count : ℕ) → n < count → (if nat_lt n count then n else count - 1) ≡ n
clamped_inside n count inside = grind (arith, nat_tests)

-- each lane has a candidate
pub candidate_exists : (line : Line) (first lane : ℕ)
    → candidate_in line first lane < candidate_count line
candidate_exists line first lane =
    clamped_below (first + lane) (candidate_count line) (omega arith)

-- the candidates of a block stand in its lanes in order
pub candidate_at : (line : Line) (first lane n : ℕ) → first + lane ≡ n
    → n < candidate_count line → candidate_in line first lane ≡ n
candidate_at line first lane n is inside =
    clamped_inside (first + lane) (candidate_count line) (omega arith) ∙ is

-- where the candidate in a lane is known to be before that of another, the lane is before it
pub candidate_before : (line : Line) (first lane i : ℕ) → i < candidate_in line first lane
    → first ≤ i → i < first + lane
candidate_before line first lane i before late =
    within (first + lane) (candidate_count line) i before where
      within : (n count k : ℕ) → k < (if nat_lt n count then n else count - 1) → k < n
      within n count k low = grind (arith, nat_tests)

-- ---- the choice of a lane's candidate

-- the number of a span in a lane
abbrev pub in_span : ℕ → Option (List ℕ) → Option ℕ
in_span lane span = option_map (λ s. slice_index s lane) span

value_at : (line : Line) (number param : ℕ) → param < param_count line
    → get_or (candidate line number).values param 0 ≡ candidate_value line number param
value_at line number param inside =
    get_or-map-range_with_len (candidate_value line number) 0 (param_count line) param param 0
    inside (omega arith)

-- without steps each number stays
pub no_step : {A : Type 0} (i t : ℕ) (o : Option A) → option_map (number_at [] i t) o ≡ o
no_step i t None = refl
no_step i t (Some span) = refl

module _ (line : Line) (first : ℕ) (spans : List (List ℕ))
    (are : AreBlockSpans line first (param_count line) spans) where
  -- in each lane each span is the number of the choice,
  pub block_number : (lane i : ℕ) → lane < 64 → i < param_count line
      → in_span lane (slice_get spans i)
      ≡ Some ((timing_choice line (candidate line (candidate_in line first lane))).number i)
  unfolding timing_choice
  block_number lane i inside there =
      let count = are.count in
      let at = slice_get-get_or spans i [] (omega arith) in
      ap (in_span lane) at
      ∙ ap (λ (n : ℕ). Some n)
      (are.each i there lane inside
      ∙ sym (value_at line (candidate_in line first lane) i there))

  -- and that of a delay is the choice's delay at every tick
  pub block_delay : ParametersAreNumbered → (lane c t : ℕ) → lane < 64 → c < channel_count line
      → in_span lane
      (option_map (number_at [] (delay_param line c) t) (slice_get spans (delay_param line c)))
      ≡ Some ((timing_choice line (candidate line (candidate_in line first lane))).delay c t)
  unfolding timing_choice
  block_delay numbered lane c t inside there =
      ap (in_span lane) (no_step (delay_param line c) t (slice_get spans (delay_param line c)))
      ∙ block_number lane (delay_param line c) inside (numbered.delays line c there)
