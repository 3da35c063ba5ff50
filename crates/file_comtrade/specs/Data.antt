-- What the data say of chosen digital channels: the samples, or the first fault.
use Rattle.std.specs.Prelude.{◌==◌, ◌+◌, ◌-◌, ◌*◌, ℕ, Bool, true, false}
use Rattle.std.specs.Prelude.{nat_le, List, [], ◌∷◌, ◌++◌, length, drop}
use Rattle.std.specs.Prelude.{Option, Some, None, Ok, Err, if◌then◌else◌}
use Rattle.std.specs.List.{slice_get, list_all, before_first}
use Rattle.std.specs.Option.{ok_or}
use Rattle.base_memory.specs.Gives.{◌>>=◌, passes_or}
use Rattle.file_comtrade.specs.{Config.ConfigValues, Steps.steps, Text.is_blank, Text.lines_of}
use Rattle.file_comtrade.specs.{Text.unmarked, Times.has_time, Times.time_of}
use Rattle.file_comtrade.specs.RawSample.{Said, RawSample, chunk_at, raw_in_bytes, raw_in_line}
use Rattle.file_comtrade.specs.RawSample.{sample_bytes}
use Rattle.file_comtrade.specs.declared.config.Form.{Form}
use Rattle.file_comtrade.specs.declared.config.Form.TheVariants.{Ascii, Binary, Binary32, Float32}
use Rattle.file_comtrade.specs.declared.shape.Shape.{Shape}
use Rattle.file_comtrade.specs.declared.fault.DataFault.{DataFault}
use Rattle.file_comtrade.specs.declared.fault.DataFault.TheVariants as fault

abbrev pub is_ascii : Form → Bool
is_ascii Ascii = true
is_ascii Binary = false
is_ascii Binary32 = false
is_ascii Float32 = false

-- how a configuration says that samples are written
abbrev pub shape_of : ConfigValues → Shape
shape_of c = record { analog = c.analog; digital = length c.digital; form = c.form }

pub record SampleValues : Type 0 where
  pub number : ℕ
  pub time : ℕ
  pub levels : List Bool

-- the text ends at an end-of-file byte
abbrev pub sample_lines : List ℕ → List (List ℕ)
sample_lines bytes = lines_of (before_first (λ b. b == 26) (unmarked bytes))

abbrev pub raw_line_at : Shape → List ℕ → List (List ℕ) → ℕ → Said RawSample
raw_line_at s chosen lines k =
    ok_or (slice_get lines k) (fault.Absent (k + 1)) >>= raw_in_line s chosen k

abbrev pub raw_chunk_at : Shape → List ℕ → List ℕ → ℕ → Said RawSample
raw_chunk_at s chosen bytes k =
    ok_or (chunk_at (sample_bytes s) bytes k) (fault.Absent (k + 1))
    >>= λ row. Ok (raw_in_bytes s chosen row)

-- the sample with this index, where lines are those of ASCII data, and bytes are binary ones
unfoldable pub raw_at : Shape → List ℕ → List (List ℕ) → List ℕ → ℕ → Said RawSample
raw_at s chosen lines bytes k =
    if is_ascii s.form then raw_line_at s chosen lines k else raw_chunk_at s chosen bytes k

-- the number is one above that of the sample before; the first may have any
unfoldable pub follows : Option SampleValues → ℕ → Bool
follows None number = true
follows (Some sample) number = number == sample.number + 1

unfoldable pub not_before : Option SampleValues → ℕ → Bool
not_before None time = true
not_before (Some sample) time = nat_le sample.time time

abbrev pub last_in : {X : Type 0} → List X → Option X
last_in xs = slice_get xs (length xs - 1)

unfoldable pub sample_after : ConfigValues → List ℕ → List (List ℕ) → List ℕ → List SampleValues
    → ℕ → Said (List SampleValues)
sample_after config chosen lines bytes samples k = do
  raw ← raw_at (shape_of config) chosen lines bytes k
  next ← passes_or (follows (last_in samples) raw.number) (fault.Number (k + 1))
  timed ← passes_or (has_time config raw.stamp) (fault.NoStamp (k + 1))
  time ← ok_or (time_of config (k + 1) raw.stamp) (fault.TooLate (k + 1))
  later ← passes_or (not_before (last_in samples) time) (fault.Earlier (k + 1))
  Ok (samples ++ (record { number = raw.number; time = time; levels = raw.levels }) ∷ [])

-- nothing but blank lines follows, or nothing
unfoldable pub is_done : ConfigValues → List (List ℕ) → List ℕ → Bool
is_done config lines bytes =
    if is_ascii config.form
    then list_all is_blank (drop config.sampling.samples lines)
    else length bytes == config.sampling.samples * sample_bytes (shape_of config)

unfoldable pub samples_in : ConfigValues → List ℕ → List (List ℕ) → List ℕ → Said (List SampleValues)
samples_in config chosen lines bytes = do
  samples ← steps (sample_after config chosen lines bytes) [] config.sampling.samples
  done ← passes_or (is_done config lines bytes) (fault.Surplus (config.sampling.samples + 1))
  Ok samples

-- the lines of data in ASCII
abbrev pub lines_in : ConfigValues → List ℕ → List (List ℕ)
lines_in config bytes = if is_ascii config.form then sample_lines bytes else []

-- a sample with too few fields is one before which the data end, where its line is blank, and so is
-- all behind it
abbrev pub or_absent : List (List ℕ) → DataFault → DataFault
or_absent lines (fault.Fields n) =
    if list_all is_blank (drop (n - 1) lines) then fault.Absent n else fault.Fields n
or_absent lines why = why

abbrev pub ended : List (List ℕ) → Said (List SampleValues) → Said (List SampleValues)
ended lines (Ok samples) = Ok samples
ended lines (Err why) = Err (or_absent lines why)

-- what the data say of the chosen channels, by their indices
unfoldable pub samples_of : ConfigValues → List ℕ → List ℕ → Said (List SampleValues)
samples_of config chosen bytes =
    ended (lines_in config bytes) (samples_in config chosen (lines_in config bytes) bytes)
