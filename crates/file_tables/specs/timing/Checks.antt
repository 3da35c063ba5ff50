-- The checks of one record, each of them alone. n is the record's number; the header is record 1.
use Rattle.std.specs.Prelude.{◌++◌, ◌+◌, ◌&&◌, ◌==◌, ℕ, Bool, false, List, [], ◌∷◌, length}
use Rattle.std.specs.Prelude.{nat_le, nat_lt, Option, None, Some, Result, Ok, Err, if◌then◌else◌}
use Rattle.std.specs.List.{list_any, before_first, after_first}
use Rattle.std.specs.Str.{bytes_eq}
use Rattle.std.proofs.lemmas.Map.Entries.{option_filter}
use Rattle.model_line.specs.Parameters.{is_delay, declared_ends}
use Rattle.model_line.specs.declared.line.Line.{Line}
use Rattle.model_names.specs.NumbersByName.{param_named}
use Rattle.base_records.specs.Fields.{is_empty}
use Rattle.base_text.specs.store.Number.{number_of}
use Rattle.file_tables.specs.declared.timing.fault.TimingFault.{TimingFault}
use Rattle.file_tables.specs.declared.timing.fault.TimingFault.TheVariants as fault
use Rattle.file_tables.specs.declared.timing.named.Named.{Named}
use Rattle.file_tables.specs.declared.timing.named.Named.TheVariants as named
use Rattle.model_timing.specs.NamedValues.{NamedValues}
use Rattle.file_tables.specs.timing.SoFar.{OpenTiming, closed, opened}

-- the timings before the row's, and the row's own timing, which it may open
pub record Opening : Type 0 where
  pub done : List NamedValues
  pub timing : OpenTiming

-- a name of an earlier timing that isn't the latest is out of order; there are at most 16 timings
abbrev pub is_earlier : List NamedValues → List ℕ → Bool
is_earlier done name = list_any (λ t. bytes_eq t.name name) done

abbrev pub after_latest : Line → List NamedValues → ℕ → List ℕ → OpenTiming
    → Result Opening TimingFault
after_latest line done n name t =
    if bytes_eq t.name name then Ok (record { done = done; timing = t })
    else if is_earlier done name then Err (fault.Order n)
    else if nat_lt (length done + 1) 16
    then Ok (record { done = done ++ closed t ∷ []; timing = opened line name })
    else Err fault.TooMany

abbrev pub check_timing : Line → List NamedValues → ℕ → List ℕ → Option OpenTiming
    → Result Opening TimingFault
check_timing line done n name None = Ok (record { done = done; timing = opened line name })
check_timing line done n name (Some t) = after_latest line done n name t

-- a step: the name of a delay, `@`, and a tick from 1 to the last
abbrev pub is_at : ℕ → Bool
is_at b = b == 64

abbrev pub step_at : Line → Option ℕ → Option ℕ → Option Named
step_at line None from = None
step_at line (Some i) None = None
step_at line (Some i) (Some from) =
    if is_delay line i && (nat_le 1 from && nat_lt from line.horizon) then Some (named.Step i from)
    else None

abbrev pub step_named : Line → List ℕ → Option Named
step_named line field =
    step_at line (param_named line (before_first is_at field)) (number_of (after_first is_at field))

abbrev pub number_or_step : Line → List ℕ → Option ℕ → Option Named
number_or_step line field (Some i) = Some (named.Number i)
number_or_step line field None = step_named line field

-- the parameter field: empty, the name of a parameter, or a step
abbrev pub named_in : Line → List ℕ → Option Named
named_in line [] = Some named.Nothing
named_in line (b ∷ bs) = number_or_step line (b ∷ bs) (param_named line (b ∷ bs))

-- the value of a row that names a parameter is a number of its interval; any other row has none
abbrev pub number_within : Line → ℕ → Option ℕ → Option ℕ
number_within line i value =
    let ends = declared_ends line i in
    option_filter (λ v. nat_le ends.least v && nat_le v ends.greatest) value

abbrev pub value_for : Line → Named → List ℕ → Option ℕ
value_for line named.Nothing value = if is_empty value then Some 0 else None
value_for line (named.Number i) value = number_within line i (number_of value)
value_for line (named.Step i from) value = number_within line i (number_of value)

-- the same parameter, or the same step, stands in the timing already
abbrev pub is_given : OpenTiming → Named → Bool
is_given t named.Nothing = false
is_given t (named.Number i) = list_any (λ k. k == i) t.given
is_given t (named.Step i from) =
    list_any (λ s. (s.param == i) && (s.from == from)) t.timing.steps
