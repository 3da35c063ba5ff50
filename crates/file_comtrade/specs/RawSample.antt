-- One sample of the data, as it is written: binary, or in a line of ASCII.
use Rattle.std.specs.Prelude.{◌==◌, ◌+◌, ◌*◌, ◌/◌, ◌%◌, ℕ, Bool}
use Rattle.std.specs.Prelude.{nat_le, List, [], ◌∷◌, ◌++◌, length, take, drop, map, get_or}
use Rattle.std.specs.Prelude.{Option, Some, None, option_map, Result, Ok}
use Rattle.std.specs.Prelude.{if◌then◌else◌}
use Rattle.std.specs.List.{slice_get}
use Rattle.std.specs.Int.{bit_at}
use Rattle.std.specs.Option.{ok_or}
use Rattle.byteorder.specs.Endian.{little_number}
use Rattle.base_memory.specs.Gives.{◌>>=◌, passes_or}
use Rattle.base_records.specs.Fields.{level_named}
use Rattle.file_comtrade.specs.Options as option
use Rattle.file_comtrade.specs.{Number.natural_of, Number.whole_of, Steps.steps, Text.fields_of}
use Rattle.file_comtrade.specs.declared.config.Form.{Form}
use Rattle.file_comtrade.specs.declared.config.Form.TheVariants.{Ascii, Binary, Binary32, Float32}
use Rattle.file_comtrade.specs.declared.shape.Shape.{Shape}
use Rattle.file_comtrade.specs.declared.fault.DataFault.{DataFault}
use Rattle.file_comtrade.specs.declared.fault.DataFault.TheVariants as fault

abbrev pub Said : Type 0 → Type 0
Said X = Result X DataFault

pub record RawSample : Type 0 where
  pub number : ℕ
  pub stamp : Option ℕ
  pub levels : List Bool

-- ---- binary

-- the bytes of all analog values of a sample
abbrev pub analog_bytes : Form → ℕ → ℕ
analog_bytes Ascii n = 0
analog_bytes Binary n = 2 * n
analog_bytes Binary32 n = 4 * n
analog_bytes Float32 n = 4 * n

-- a sample: its number, its stamp, the analog values, and words of 16 digital channels
abbrev pub sample_bytes : Shape → ℕ
sample_bytes s = 8 + analog_bytes s.form s.analog + 2 * ((s.digital + 15) / 16)

-- the sample with this index, of those that stand one after another
unfoldable pub chunk_at : ℕ → List ℕ → ℕ → Option (List ℕ)
chunk_at size bytes k =
    if nat_le ((k + 1) * size) (length bytes) then Some (take size (drop (k * size) bytes))
    else None

-- the number of 32 bits that stands there
abbrev pub long_at : List ℕ → ℕ → ℕ
long_at row at = if nat_le (at + 4) (length row) then little_number 4 (drop at row) else 0

-- the word of 16 bits
abbrev pub word_at : List ℕ → ℕ → ℕ
word_at row at = if nat_le (at + 2) (length row) then little_number 2 (drop at row) else 0

-- a channel is a bit of its word; the first is the lowest
unfoldable pub level_bit : Shape → List ℕ → ℕ → Bool
level_bit s row channel =
    bit_at (word_at row (8 + analog_bytes s.form s.analog + 2 * (channel / 16))) (channel % 16)
    == 1

-- all ones stand for no stamp
abbrev pub stamp_in : ℕ → Option ℕ
stamp_in n = if n == 4294967295 then None else Some n

unfoldable pub raw_in_bytes : Shape → List ℕ → List ℕ → RawSample
raw_in_bytes s chosen row = record {
  number = long_at row 0;
  stamp = stamp_in (long_at row 4);
  levels = map (level_bit s row) chosen;
}

-- ---- ASCII

-- the level of a channel, in the fields of a line
abbrev pub level_field : Shape → List (List ℕ) → ℕ → Option Bool
level_field s fields channel =
    option.◌>>=◌ (slice_get fields (2 + s.analog + channel)) level_named

-- the chosen channels, in the order in which they were chosen
unfoldable pub level_after : Shape → List ℕ → List (List ℕ) → ℕ → List Bool → ℕ → Said (List Bool)
level_after s chosen fields k levels j = do
  level ← ok_or (level_field s fields (get_or chosen j 0))
      (fault.Level (k + 1) (get_or chosen j 0 + 1) (2 + s.analog + get_or chosen j 0))
  Ok (levels ++ level ∷ [])

-- a stamp may be left out
abbrev pub stamp_of : List ℕ → Option (Option ℕ)
stamp_of [] = Some None
stamp_of (b ∷ bs) = option_map (λ n. Some n) (whole_of (b ∷ bs))

-- the number and the stamp, where there is a field for each channel
unfoldable pub numbers_in : Shape → ℕ → List (List ℕ) → Said (ℕ × Option ℕ)
numbers_in s k fields = do
  many ← passes_or (length fields == 2 + s.analog + s.digital) (fault.Fields (k + 1))
  number ← ok_or (natural_of (get_or fields 0 [])) (fault.Number (k + 1))
  stamp ← ok_or (stamp_of (get_or fields 1 [])) (fault.Stamp (k + 1))
  Ok (number, stamp)

-- the sample of a line
unfoldable pub raw_in_line : Shape → List ℕ → ℕ → List ℕ → Said RawSample
raw_in_line s chosen k line = do
  numbers ← numbers_in s k (fields_of line)
  levels ← steps (level_after s chosen (fields_of line) k) [] (length chosen)
  Ok (record { number = numbers.0; stamp = numbers.1; levels = levels })
