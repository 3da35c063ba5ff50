-- What definitions see of samples.
use Rattle.std.specs.Prelude.{◌≡◌, ◌≤◌, ◌<◌, ◌-◌, ℕ, List, [], ◌∷◌, ◌++◌, length, map, slice_index}
use Rattle.file_comtrade.specs.{Data.SampleValues}
use Rattle.file_comtrade.specs.declared.data_reader.Sample.{Sample}

abbrev pub sample_values : Sample → SampleValues
sample_values s = record { number = s.number; time = s.time; levels = s.levels.items }

abbrev pub times_in : List Sample → List ℕ
times_in samples = map (λ s. s.time) samples

-- not before the last of these times
pub record IsAfter (times : List ℕ) (time : ℕ) : Type 0 where
  pub after : 0 < length times → slice_index times (length times - 1) ≤ time

-- one time more
pub record OneLater (old new : List ℕ) : Type 0 where
  pub time : ℕ
  pub more : new ≡ old ++ time ∷ []
  pub later : IsAfter old time
