-- What is printed of timings is read back as its records.
use Rattle.std.proofs.Common.{◌≡◌, ◌+◌, ℕ, List, [], ◌∷◌, ◌++◌, ◌∙◌, ap, refl, map}
use Rattle.std.specs.List.{flat_map}
use Rattle.std.proofs.lemmas.List.{map-append}
use Rattle.csv.specs.Reading.{strip_bom}
use Rattle.csv.specs.Writing.{escaped, fields_text, is_blank, read_back}
use Rattle.model_line.specs.declared.line.Line.{Line}
use Rattle.model_timing.specs.declared.step.Step.{Step}
use Rattle.model_timing.specs.NamedValues.{NamedValues}
use Rattle.base_records.specs.Records.{records_of}
use Rattle.file_tables.specs.script.Printed.{records_text}
use Rattle.file_tables.specs.timing.Row.{header_record}
use Rattle.file_tables.specs.timing.Printed.{file_records, name_record, number_record, number_records}
use Rattle.file_tables.specs.timing.Printed.{step_record, timing_records}
use Rattle.file_tables.proofs.TextLaws.{text_read}

-- no byte order mark stands before the header
no_mark : (rows : List (List (List ℕ)))
    → strip_bom (records_text (header_record ∷ rows)) ≡ records_text (header_record ∷ rows)
unfolding strip_bom escaped fields_text is_blank
no_mark rows = refl

numbers_back : (line : Line) (name : List ℕ) (i : ℕ) (values : List ℕ)
    → map read_back (number_records line name i values) ≡ number_records line name i values
numbers_back line name i [] = refl
numbers_back line name i (value ∷ values) =
    ap (λ (t : List (List (List ℕ))). number_record line name i value ∷ t)
    (numbers_back line name (i + 1) values)

steps_back : (line : Line) (name : List ℕ) (steps : List (Step ℕ))
    → map read_back (map (step_record line name) steps) ≡ map (step_record line name) steps
steps_back line name [] = refl
steps_back line name (step ∷ steps) =
    ap (λ (t : List (List (List ℕ))). step_record line name step ∷ t) (steps_back line name steps)

timing_back : (line : Line) (v : NamedValues)
    → map read_back (timing_records line v) ≡ timing_records line v
timing_back line v =
    let numbers = number_records line v.name 0 v.timing.values in
    let steps = map (step_record line v.name) v.timing.steps in
    ap (λ (t : List (List (List ℕ))). name_record v.name ∷ t)
    (map-append read_back numbers steps
    ∙ ap (λ (t : List (List (List ℕ))). t ++ map read_back steps)
    (numbers_back line v.name 0 v.timing.values)
    ∙ ap (λ (t : List (List (List ℕ))). numbers ++ t) (steps_back line v.name v.timing.steps))

timings_back : (line : Line) (vs : List NamedValues)
    → map read_back (flat_map (timing_records line) vs) ≡ flat_map (timing_records line) vs
timings_back line [] = refl
timings_back line (v ∷ vs) =
    let more = flat_map (timing_records line) vs in
    map-append read_back (timing_records line v) more
    ∙ ap (λ (t : List (List (List ℕ))). t ++ map read_back more) (timing_back line v)
    ∙ ap (λ (t : List (List (List ℕ))). timing_records line v ++ t) (timings_back line vs)

-- the records of a file of timings
pub file_read : (line : Line) (vs : List NamedValues)
    → records_of (records_text (file_records line vs)) ≡ file_records line vs
file_read line vs =
    let rows = flat_map (timing_records line) vs in
    text_read (header_record ∷ rows) (no_mark rows)
    ∙ ap (λ (t : List (List (List ℕ))). header_record ∷ t) (timings_back line vs)
