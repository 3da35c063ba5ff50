-- What a configuration says: its values, or its first fault.
use Rattle.std.specs.Prelude.{◌&&◌, ◌==◌, ◌+◌, ◌-◌, ℕ, Bool, true, nat_le, nat_lt}
use Rattle.std.specs.Prelude.{List, [], ◌∷◌, ◌++◌, length, map, fold, drop}
use Rattle.std.specs.Prelude.{Option, is_some, option_map, Result, Ok, Err, if◌then◌else◌}
use Rattle.std.specs.List.{slice_get, list_all}
use Rattle.std.specs.Option.{ok_or}
use Rattle.base_memory.specs.Gives.{◌>>=◌, passes_or}
use Rattle.file_comtrade.specs.ConfigLines.{Counts, counts_in, factor_in, form_in, id_in, moment_in}
use Rattle.file_comtrade.specs.ConfigLines.{natural_in, order_of, rate_in, revision_in, unit_in}
use Rattle.file_comtrade.specs.{Calendar.day_of, Steps.steps, Text.fields_of, Text.is_blank}
use Rattle.file_comtrade.specs.{Text.lines_of, Text.unmarked}
use Rattle.file_comtrade.specs.declared.config.Config.{Config}
use Rattle.file_comtrade.specs.declared.config.DateOrder.{DateOrder}
use Rattle.file_comtrade.specs.declared.config.DateOrder.TheVariants.{DayFirst, MonthFirst}
use Rattle.file_comtrade.specs.declared.config.Form.{Form}
use Rattle.file_comtrade.specs.declared.config.Manner.{Manner}
use Rattle.file_comtrade.specs.declared.config.Rate.{Rate}
use Rattle.file_comtrade.specs.declared.config.Revision.{Revision}
use Rattle.file_comtrade.specs.declared.config.Revision.TheVariants.{Of1991, Of1999, Of2013}
use Rattle.file_comtrade.specs.declared.config.Sampling.{Sampling}
use Rattle.file_comtrade.specs.declared.config.StampUnit.{StampUnit}
use Rattle.file_comtrade.specs.declared.fault.ConfigFault.{ConfigFault}
use Rattle.file_comtrade.specs.declared.fault.ConfigFault.TheVariants as fault

abbrev pub Said : Type 0 → Type 0
Said X = Result X ConfigFault

-- ---- what is said

pub record SamplingValues : Type 0 where
  pub rates : List Rate
  pub samples : ℕ

pub record ConfigValues : Type 0 where
  pub analog : ℕ
  pub digital : List (List ℕ)
  pub sampling : SamplingValues
  pub first : ℕ
  pub form : Form
  pub unit : StampUnit
  pub factor : ℕ

abbrev pub sampling_values : Sampling → SamplingValues
sampling_values s = record { rates = s.rates.items; samples = s.samples }

abbrev pub values_of : Config → ConfigValues
values_of c = record {
  analog = c.analog;
  digital = map (λ id. id.now) c.digital.items;
  sampling = sampling_values c.sampling;
  first = c.first;
  form = c.form;
  unit = c.unit;
  factor = c.factor;
}

-- the fields of the line with this index
unfoldable pub line_at : List (List ℕ) → ℕ → Said (List (List ℕ))
line_at lines k = ok_or (option_map fields_of (slice_get lines k)) (fault.Absent (k + 1))

-- ---- the lines of the channels

-- an analog channel is only counted
unfoldable pub analog_after : List (List ℕ) → ℕ → Unit {0} → ℕ → Said (Unit {0})
analog_after lines at seen k = do
  fields ← line_at lines (at + k)
  passes_or (nat_le 10 (length fields)) (fault.Analog (at + k + 1))

unfoldable pub digital_after : List (List ℕ) → ℕ → List (List ℕ) → ℕ → Said (List (List ℕ))
digital_after lines at ids k = do
  fields ← line_at lines (at + k)
  id ← ok_or (id_in fields) (fault.Digital (at + k + 1))
  Ok (ids ++ id ∷ [])

-- ---- the lines of the rates

-- the last sample so far
abbrev pub last_of : List Rate → ℕ
last_of rates = fold (λ n rate. rate.last) 0 rates

-- of so many rates, none is 0 but a single one; where there are none, a 0 stands in their place
abbrev pub can_stand : ℕ → ℕ → Bool
can_stand count rate =
    if count == 0 then rate == 0 else if count == 1 then true else nat_lt 0 rate

-- each has its last sample behind that of the one before
unfoldable pub rate_after : List (List ℕ) → ℕ → ℕ → List Rate → ℕ → Said (List Rate)
rate_after lines at count rates k = do
  fields ← line_at lines (at + k)
  rate ← ok_or (rate_in fields) (fault.BadRate (at + k + 1))
  good ← passes_or (can_stand count rate.microhertz && nat_lt (last_of rates) rate.last)
      (fault.BadRate (at + k + 1))
  Ok (rates ++ rate ∷ [])

-- as many lines as there are rates, or one
abbrev pub rate_lines : ℕ → ℕ
rate_lines count = if count == 0 then 1 else count

-- so many rates, in the lines from this index on
unfoldable pub sampling_at : List (List ℕ) → ℕ → ℕ → Said SamplingValues
sampling_at lines at count = do
  rates ← steps (rate_after lines at count) [] (rate_lines count)
  Ok (record { rates = rates; samples = last_of rates })

-- ---- the rest

unfoldable pub factor_later : List (List ℕ) → ℕ → Said ℕ
factor_later lines at = do
  fields ← line_at lines at
  ok_or (factor_in fields) (fault.Factor (at + 1))

-- the factor of a record of 1991 is 1
abbrev pub factor_at : Revision → List (List ℕ) → ℕ → Said ℕ
factor_at Of1991 lines at = Ok 1000000000
factor_at Of1999 lines at = factor_later lines at
factor_at Of2013 lines at = factor_later lines at

abbrev pub other_order : DateOrder → DateOrder
other_order DayFirst = MonthFirst
other_order MonthFirst = DayFirst

-- why a line says no instant: its date is none, or one in the other order alone, or its time is none
abbrev pub moment_fault : DateOrder → ℕ → List (List ℕ) → ConfigFault
moment_fault order n (date ∷ time ∷ []) =
    if is_some (day_of order date) then fault.Time n
    else if is_some (day_of (other_order order) date)
    then fault.OtherOrder n (other_order order)
    else fault.Date n
moment_fault order n _ = fault.Moment n

pub record End : Type 0 where
  pub first : ℕ
  pub form : Form
  pub unit : StampUnit
  pub factor : ℕ

-- the instants of the first sample and of the trigger, the form and the factor; the trigger's is
-- passed over
unfoldable pub end_at : Manner → List (List ℕ) → ℕ → Said End
end_at manner lines at = do
  date ← line_at lines at
  first ← ok_or (moment_in manner.order date) (moment_fault manner.order (at + 1) date)
  trigger ← line_at lines (at + 1)
  word ← line_at lines (at + 2)
  form ← ok_or (form_in word) (fault.BadForm (at + 3))
  factor ← factor_at manner.revision lines (at + 3)
  Ok (record { first = first; form = form; unit = unit_in manner.revision date; factor = factor })

pub record Tail : Type 0 where
  pub sampling : SamplingValues
  pub ending : End

-- behind the channels: the line's frequency, which is passed over, at most 64 rates and the rest
unfoldable pub tail_at : Manner → List (List ℕ) → ℕ → Said Tail
tail_at manner lines at = do
  frequency ← line_at lines at
  row ← line_at lines (at + 1)
  count ← ok_or (natural_in row) (fault.Rates (at + 2))
  few ← passes_or (nat_le count 64) (fault.Rates (at + 2))
  sampling ← sampling_at lines (at + 2) count
  ending ← end_at manner lines (at + 2 + rate_lines count)
  Ok (record { sampling = sampling; ending = ending })

-- the channels, and what stands behind them
unfoldable pub body_of : Manner → Counts → List (List ℕ) → Said ConfigValues
body_of manner counts lines = do
  analog ← steps (analog_after lines 2) tt counts.analog
  digital ← steps (digital_after lines (2 + counts.analog)) [] counts.digital
  tail ← tail_at manner lines (2 + counts.analog + counts.digital)
  Ok (record {
    analog = counts.analog;
    digital = digital;
    sampling = tail.sampling;
    first = tail.ending.first;
    form = tail.ending.form;
    unit = tail.ending.unit;
    factor = tail.ending.factor;
  })

abbrev pub manner_of : Option DateOrder → Revision → Manner
manner_of dates revision = record { revision = revision; order = order_of dates revision }

-- what the lines of a configuration say, whose dates have the order of its revision or this one
unfoldable pub config_in : Option DateOrder → List (List ℕ) → Said ConfigValues
config_in dates lines = do
  head ← line_at lines 0
  revision ← ok_or (revision_in head) fault.BadRevision
  second ← line_at lines 1
  counts ← ok_or (counts_in second) fault.Counts
  body_of (manner_of dates revision) counts lines

-- ---- where the text ends

-- the line of a fault
abbrev pub line_of : ConfigFault → ℕ
line_of (fault.Absent n) = n
line_of fault.BadRevision = 1
line_of fault.Counts = 2
line_of (fault.Analog n) = n
line_of (fault.Digital n) = n
line_of (fault.Rates n) = n
line_of (fault.BadRate n) = n
line_of (fault.Moment n) = n
line_of (fault.Date n) = n
line_of (fault.OtherOrder n order) = n
line_of (fault.Time n) = n
line_of (fault.BadForm n) = n
line_of (fault.Factor n) = n

-- a line that is wrong is one before which the text ends, where it is blank, and so is all behind it
abbrev pub or_absent : List (List ℕ) → ConfigFault → ConfigFault
or_absent lines why =
    if list_all is_blank (drop (line_of why - 1) lines) then fault.Absent (line_of why) else why

abbrev pub ended : List (List ℕ) → Said ConfigValues → Said ConfigValues
ended lines (Ok config) = Ok config
ended lines (Err why) = Err (or_absent lines why)

-- what the bytes of a configuration say
abbrev pub config_of : Option DateOrder → List ℕ → Said ConfigValues
config_of dates text =
    ended (lines_of (unmarked text)) (config_in dates (lines_of (unmarked text)))
