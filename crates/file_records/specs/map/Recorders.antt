-- The recorders of a map.
use Rattle.std.specs.Prelude.{◌+◌, ◌++◌, ◌||◌, ℕ, List, [], ◌∷◌, Option, None, Some, Result, Ok, Err}
use Rattle.std.specs.Prelude.{codes, if◌then◌else◌}
use Rattle.std.specs.Str.{bytes_eq}
use Rattle.toml.specs.Data.{Data, Members, Items, no_items, item, get_member}
use Rattle.model_line.specs.declared.line.Line.{Line}
use Rattle.model_names.specs.NumbersByName.{terminal_named}
use Rattle.base_memory.specs.Gives.{◌>>=◌}
use Rattle.file_comtrade.specs.declared.config.DateOrder.{DateOrder}
use Rattle.file_comtrade.specs.declared.config.DateOrder.TheVariants.{DayFirst, MonthFirst}
use Rattle.file_document.specs.declared.fault.DocumentFault.{DocumentFault}
use Rattle.file_document.specs.declared.fault.DocumentFault.TheVariants as fault
use Rattle.file_records.specs.declared.map.recorder.Recorder.{Recorder}
use Rattle.file_document.specs.{Paths.under, Paths.numbered, Keys.all_known, Keys.table_in}
use Rattle.file_records.specs.{map.Instants.shifted, map.Signals.SignalsValues}
use Rattle.file_document.specs.{Keys.text_at, Keys.text_in}
use Rattle.file_records.specs.{map.Signals.signals_values, map.Signals.signals_of}
use Rattle.file_records.specs.map.DataNames.{is_config, is_one_file}
use Rattle.file_line.specs.ChannelTables.{terminal_in}

-- A recorder: its terminal, the name of its configuration or of its record in one file, the order in its dates where it keeps to
-- none of its revision's, the instant of tick 0 in its clock, and the signals that it tells.
pub record RecorderValues : Type 0 where
  pub terminal : ℕ
  pub config : List ℕ
  pub dates : Option DateOrder
  pub start : ℕ
  pub signals : SignalsValues

abbrev pub recorder_values : Recorder → RecorderValues
recorder_values r = record {
  terminal = r.terminal;
  config = r.config.items;
  dates = r.dates;
  start = r.start;
  signals = signals_values r.signals;
}

abbrev pub recorder_keys : List (List ℕ)
recorder_keys =
    codes "terminal" ∷ codes "config" ∷ codes "date" ∷ codes "shift_us" ∷ codes "z1" ∷ codes "z2"
    ∷ codes "rv" ∷ codes "uv" ∷ codes "cur" ∷ codes "loss" ∷ codes "key" ∷ codes "trip" ∷ []

unfoldable pub terminal_at : Line → List ℕ → Members → Result ℕ DocumentFault
terminal_at line path ms = do
  name ← text_at path (codes "terminal") ms
  terminal_in (under path (codes "terminal")) (terminal_named line name)

-- the name of a configuration, or of a record in one file
abbrev pub config_in : List ℕ → List ℕ → Result (List ℕ) DocumentFault
config_in path name =
    if is_config name || is_one_file name then Ok name else Err (fault.BadName path)

unfoldable pub config_at : List ℕ → Members → Result (List ℕ) DocumentFault
config_at path ms = do
  name ← text_at path (codes "config") ms
  config_in (under path (codes "config")) name

abbrev pub order_named : List ℕ → List ℕ → Result (Option DateOrder) DocumentFault
order_named path text =
    if bytes_eq text (codes "dmy") then Ok (Some DayFirst)
    else if bytes_eq text (codes "mdy") then Ok (Some MonthFirst)
    else Err (fault.BadName path)

unfoldable pub order_in : List ℕ → Data → Result (Option DateOrder) DocumentFault
order_in path d = do
  text ← text_in path d
  order_named path text

abbrev pub order_or_none : List ℕ → Option Data → Result (Option DateOrder) DocumentFault
order_or_none path None = Ok None
order_or_none path (Some d) = order_in path d

-- the recorder that a table says, where tick 0 is at this instant
unfoldable pub recorder_in : Line → ℕ → List ℕ → Members → Result RecorderValues DocumentFault
recorder_in line start path ms = do
  terminal ← terminal_at line path ms
  config ← config_at path ms
  dates ← order_or_none (under path (codes "date")) (get_member (codes "date") ms)
  own ← shifted (under path (codes "shift_us")) start (get_member (codes "shift_us") ms)
  signals ← signals_of line path terminal ms
  Ok (record {
    terminal = terminal;
    config = config;
    dates = dates;
    start = own;
    signals = signals;
  })

-- a recorder, which has no other keys
unfoldable pub recorder_at : Line → ℕ → List ℕ → Data → Result RecorderValues DocumentFault
recorder_at line start path d = do
  ms ← table_in path d
  _ ← all_known path recorder_keys ms
  recorder_in line start path ms

-- the recorders of an array, from item i on, behind those that are there
unfoldable pub recorders_in : Line → ℕ → List ℕ → ℕ → Items → List RecorderValues
    → Result (List RecorderValues) DocumentFault
recorders_in line start path i no_items done = Ok done
recorders_in line start path i (item d ds) done = do
  new ← recorder_at line start (numbered path i) d
  recorders_in line start path (i + 1) ds (done ++ new ∷ [])
