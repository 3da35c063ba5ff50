-- What is read of a play that is written as a record: the play itself.
use Rattle.std.specs.Prelude.{◌≡◌, ◌<◌, ◌+◌, ◌*◌, ℕ, Bool, List, [], ◌∷◌, map, length, get_or, None}
use Rattle.std.specs.Prelude.{Ok, IsTrue}
use Rattle.std.specs.List.{All, range_with_len}
use Rattle.model_line.specs.{declared.line.Line.Line, declared.script.Script.Script}
use Rattle.model_line.specs.PlainNames.{is_plain_name}
use Rattle.model_logic.specs.Histories.{History}
use Rattle.file_comtrade.specs.Calendar.{day_number}
use Rattle.file_comtrade.specs.Config.{ConfigValues, config_of}
use Rattle.file_comtrade.specs.{Data.SampleValues, Data.samples_of, Record.Files}
use Rattle.file_comtrade.specs.declared.config.Form.TheVariants.{Ascii}
use Rattle.file_comtrade.specs.declared.config.StampUnit.TheVariants.{Microsecond}
use Rattle.file_comtrade.specs.declared.record.RecordFault.{RecordFault}
use Rattle.file_records.specs.{recorded.Config.config_text, recorded.Data.data_text}
use Rattle.file_records.specs.{declared.map.source.Signal.Signal, map.Sources.id}
use Rattle.file_records.specs.tracks.Channels.{AreLevels, IsRefused}
use Rattle.file_records.specs.tracks.Tracks.{ticks_of}
use Rattle.file_records.specs.recorded.Channels.{id_of, level_of, signals_of}

-- the first instant of the year 2000, at which tick 0 begins
abbrev pub start : ℕ
start = day_number 2000 1 1 * 86400000000000

-- A channel for each signal, no rate, and a sample for each tick, whose stamp counts microseconds.
abbrev pub config_meant : Line → ConfigValues
config_meant line = record {
  analog = 0;
  digital = map (id_of line) (signals_of line);
  sampling = record {
    rates = record { microhertz = 0; last = line.horizon } ∷ [];
    samples = line.horizon;
  };
  first = start;
  form = Ascii;
  unit = Microsecond;
  factor = 1000000000;
}

-- the sample of a tick, taken at the tick's first instant
abbrev pub sample_meant : Line → (ℕ → Bool) → ℕ → SampleValues
sample_meant line level t = record {
  number = t + 1;
  time = t * line.tick_us * 1000;
  levels = level t ∷ [];
}

-- one for each tick, with the level of one signal
abbrev pub samples_meant : Line → (ℕ → Bool) → List SampleValues
samples_meant line level = map (sample_meant line level) (range_with_len 0 line.horizon)

-- the level at each tick
abbrev pub levels_meant : Line → (ℕ → Bool) → List Bool
levels_meant line level = map level (range_with_len 0 line.horizon)

-- ---- the laws

-- the configuration of a play is read as the line's channels, with their ids
abbrev pub ConfigsAreReadBack : Type 0
ConfigsAreReadBack =
    (line : Line) (script : Script) → IsTrue (is_plain_name script.name)
    → config_of None (config_text line script.name) ≡ Ok (config_meant line)

-- The data of a play are read as a sample for each tick, with the level of the signal there, whichever
-- channel is chosen.
abbrev pub DataAreReadBack : Type 0
DataAreReadBack =
    (line : Line) (script : Script) (h : History) (i : ℕ) (d : Signal) → i < length (signals_of line)
    → samples_of (config_meant line) (i ∷ []) (data_text line script h)
    ≡ Ok (samples_meant line (level_of script h (get_or (signals_of line) i d)))

-- both files of a play
abbrev pub files_of : Line → Script → History → Files
files_of line script h = record {
  dates = None;
  config = config_text line script.name;
  samples = data_text line script h;
}

-- What is read of a signal, by the id of its channel: at each tick its level in the play, and nothing
-- else. It is not refused.
pub record IsReadBack (line : Line) (script : Script) (h : History) (signal : Signal) : Type 0 where
  pub levels : AreLevels (files_of line script h) (id (id_of line signal)) (ticks_of line start)
      (levels_meant line (level_of script h signal))
  pub only : (others : List Bool)
      → AreLevels (files_of line script h) (id (id_of line signal)) (ticks_of line start) others
      → others ≡ levels_meant line (level_of script h signal)
  pub accepted : (f : RecordFault)
      → ¬ IsRefused (files_of line script h) (id (id_of line signal)) (ticks_of line start) f

-- each signal of a play is read back
abbrev pub PlaysAreReadBack : Type 0
PlaysAreReadBack =
    (line : Line) (script : Script) (h : History) → IsTrue (is_plain_name script.name)
    → All (IsReadBack line script h) (signals_of line)
