-- How long a file of timings is.
use Rattle.std.proofs.Common.{◌≡◌, ◌≤◌, ◌<◌, ◌+◌, ◌*◌, ◌++◌, ℕ, List, [], ◌∷◌, length, map, refl}
use Rattle.std.proofs.Common.{subst, ap, arith, length-append, decimal, codes}
use Rattle.std.proofs.lemmas.Grind.{flat_map-append}
use Rattle.std.proofs.lemmas.List.Elements.{All-head, All-tail, All-from_get_or}
use Rattle.std.specs.List.{All, flat_map}
use Rattle.csv.specs.Writing.{default_writer, row_text}
use Rattle.model_line.specs.Laws.{DeclaredIntervalsAreInOrder, SettingsAreCounted}
use Rattle.model_line.specs.Laws.{DelaysAreParameters}
use Rattle.model_line.specs.Parameters.{param_count}
use Rattle.model_line.specs.{declared.line.Line.Line, NamesByNumber.parameter_name}
use Rattle.model_timing.specs.declared.step.Step.{Step}
use Rattle.model_timing.specs.Inside.{IsStepInside, IsTimingInside}
use Rattle.model_timing.specs.NamedValues.{NamedValues}
use Rattle.file_tables.specs.FieldLaws.{IsFieldUpTo, row_wide, number_stands, joined_stands}
use Rattle.file_tables.specs.FieldLaws.{name_stands, delay_stands, param_stands}
use Rattle.file_tables.specs.script.Printed.{records_text}
use Rattle.file_tables.specs.timing.Row.{header_record}
use Rattle.file_tables.specs.timing.Printed.{MayStand, file_records, name_record, number_record, number_records}
use Rattle.file_tables.specs.timing.Printed.{step_record, steps_in, timing_records}
use Rattle.model_line.specs.DelayLaws.{delay_where}
use Rattle.file_tables.specs.timing.StepCountLaws.{channels_few, steps_few}

-- a record of three fields
three_wide : (m n k : ℕ) (a b d : List ℕ) → IsFieldUpTo m a → IsFieldUpTo n b → IsFieldUpTo k d
    → length (row_text default_writer (a ∷ b ∷ d ∷ [])) ≤ m + n + k + 3
three_wide m n k a b d x y z =
    omega (arith, x.short, y.short, z.short, row_wide a b (d ∷ []) (x.bare, (y.bare, (z.bare, tt))))

empty_stands : IsFieldUpTo 0 []
empty_stands = record { bare = refl; short = omega arith }

numbers_short : (line : Line) (name : List ℕ) (i : ℕ) (values : List ℕ) → IsFieldUpTo 16 name
    → All (λ v. v < 10000) values
    → length (records_text (number_records line name i values)) ≤ 74 * length values
numbers_short line name i [] plain small = omega arith
numbers_short line name i (value ∷ values) plain small =
    let P : ℕ → Type 0 = λ v. v < 10000 in
    let row = number_record line name i value in
    let more = numbers_short line name (i + 1) values plain (All-tail P value values small) in
    let own = three_wide 16 51 4 name (parameter_name line i) (decimal value) plain (param_stands line i)
    (number_stands value (All-head P value values small)) in
    omega (
      arith,
      more,
      own,
      length-append (row_text default_writer row)
          (records_text (number_records line name (i + 1) values)),
    )

module _ (ordered : DeclaredIntervalsAreInOrder) (delays : DelaysAreParameters) (line : Line) where
  step_short : (name : List ℕ) (s : Step ℕ) → IsFieldUpTo 16 name → IsStepInside line s
      → length (row_text default_writer (step_record line name s)) ≤ 67
  step_short name s plain inside =
      let c = delay_where line s.param inside.delay in
      let delay : IsFieldUpTo 39 (parameter_name line s.param) =
      subst (λ p. IsFieldUpTo 39 (parameter_name line p)) c.2 (delay_stands line c.0 c.1) in
      let most = ordered.within line s.param (delays.exists line s.param inside.delay) in
      let from = number_stands s.from (omega (arith, inside.early, line.horizon_in_range.1)) in
      let value = number_stands s.value (omega (arith, inside.value.greatest, most)) in
      let field = joined_stands 39 4 64 (parameter_name line s.param) (decimal s.from) refl delay from in
      omega (
        arith,
        three_wide 16 44 4 name (parameter_name line s.param ++ 64 ∷ decimal s.from) (decimal s.value)
            plain field value,
      )

  steps_short : (name : List ℕ) (steps : List (Step ℕ)) → IsFieldUpTo 16 name
      → All (IsStepInside line) steps
      → length (records_text (map (step_record line name) steps)) ≤ 67 * length steps
  steps_short name [] plain inside = omega arith
  steps_short name (s ∷ steps) plain inside =
      omega (
        arith,
        step_short name s plain (All-head (IsStepInside line) s steps inside),
        steps_short name steps plain (All-tail (IsStepInside line) s steps inside),
        length-append (row_text default_writer (step_record line name s))
            (records_text (map (step_record line name) steps)),
      )

  values_small : (t : NamedValues) → IsTimingInside line t.timing → All (λ v. v < 10000) t.timing.values
  values_small t inside =
      All-from_get_or (λ v. v < 10000) t.timing.values 0 (λ i lt.
      let within : i < param_count line = omega (arith, lt, inside.count) in
      let most = ordered.within line i within in
      let is = inside.values i within in
      omega (arith, most, is.greatest))

  timing_short : (few : param_count line ≤ 63) (t : NamedValues) → MayStand line t
      → length (records_text (timing_records line t)) ≤ 4681 + 67 * length t.timing.steps
  timing_short few t may =
      let name = name_stands t.name may.plain_name in
      let numbers = number_records line t.name 0 t.timing.values in
      let steps = map (step_record line t.name) t.timing.steps in
      let first = three_wide 16 0 0 t.name [] [] name empty_stands empty_stands in
      omega (
        arith,
        few,
        first,
        may.inside.count,
        numbers_short line t.name 0 t.timing.values name (values_small t may.inside),
        steps_short t.name t.timing.steps name may.inside.steps,
        length-append (row_text default_writer (name_record t.name)) (records_text (numbers ++ steps)),
        ap length (flat_map-append (row_text default_writer) numbers steps),
        length-append (records_text numbers) (records_text steps),
      )

  timings_short : (few : param_count line ≤ 63) (ts : List NamedValues) → All (MayStand line) ts
      → length (records_text (flat_map (timing_records line) ts)) ≤ 4681 * length ts + 67 * steps_in ts
  timings_short few [] may = omega arith
  timings_short few (t ∷ ts) may =
      let more = flat_map (timing_records line) ts in
      omega (
        arith,
        timing_short few t (All-head (MayStand line) t ts may),
        timings_short few ts (All-tail (MayStand line) t ts may),
        ap length (flat_map-append (row_text default_writer) (timing_records line t) more),
        length-append (records_text (timing_records line t)) (records_text more),
      )

  pub file_short : (few : param_count line ≤ 63) (ts : List NamedValues) → All (MayStand line) ts
      → length (records_text (file_records line ts)) ≤ 23 + 4681 * length ts + 67 * steps_in ts
  file_short few ts may =
      let rows = flat_map (timing_records line) ts in
      let head : length (row_text default_writer header_record) ≡ 23 =
      row_wide (codes "timing") (codes "parameter") (codes "value" ∷ []) (refl, (refl, (refl, tt))) in
      omega (
        arith,
        head,
        timings_short few ts may,
        length-append (row_text default_writer header_record) (records_text rows),
      )

-- the steps of timings that a file may hold
pub steps_of_each : (counted : SettingsAreCounted) (line : Line) (ts : List NamedValues)
    → All (MayStand line) ts → steps_in ts ≤ 24000 * length ts
steps_of_each counted line [] may = omega arith
steps_of_each counted line (t ∷ ts) may =
    let own = All-head (MayStand line) t ts may in
    omega (
      arith,
      steps_few counted line t.timing.steps own.inside.steps own.ascending,
      channels_few line,
      steps_of_each counted line ts (All-tail (MayStand line) t ts may),
    )
