-- The two files of a record, and the levels of samples at ticks.
use Rattle.std.specs.Prelude.{◌≡◌, ◌-◌, ℕ, Bool, List, length, map, Option, Some}
use Rattle.std.specs.Prelude.{Result, Ok, Err, ◌⊎◌}
use Rattle.std.specs.List.{slice_get}
use Rattle.base_memory.specs.declared.stopped.Stopped.{Stopped}
use Rattle.base_memory.specs.declared.stopped.Stopped.TheVariants as stopped
use Rattle.file_comtrade.specs.{Data.SampleValues, Levels.level_in}
use Rattle.file_comtrade.specs.Ticks.{IsHolding, IsCovered, instant_of}
use Rattle.file_comtrade.specs.declared.channel.Named.{Named}
use Rattle.file_comtrade.specs.declared.channel.Named.TheVariants.{Nothing, One, More}
use Rattle.file_comtrade.specs.declared.config.DateOrder.{DateOrder}
use Rattle.file_comtrade.specs.declared.record.Files as code
use Rattle.file_comtrade.specs.declared.record.RecordFault.{RecordFault}
use Rattle.file_comtrade.specs.declared.record.RecordFault.TheVariants as fault
use Rattle.file_comtrade.specs.declared.ticks.Ticks.{Ticks}

-- the bytes of both files, and the order in their dates, where it is not that of the revision
pub record Files : Type 0 where
  pub dates : Option DateOrder
  pub config : List ℕ
  pub samples : List ℕ

abbrev pub files_of : code.Files → Files
files_of f = record { dates = f.dates; config = f.config.now; samples = f.samples.now }

abbrev pub times_of : List SampleValues → List ℕ
times_of samples = map (λ s. s.time) samples

-- the level, at an instant after the first sample's, of the sample that holds there
pub record HasLevel (samples : List SampleValues) (instant : ℕ) (level : Bool) : Type 0 where
  pub sample : ℕ
  pub holds : IsHolding (times_of samples) instant sample
  pub is : level ≡ level_in 0 (slice_get samples sample)

-- each tick has a sample, and these are the levels there; the first sample is at this instant
pub record AreAt (origin : ℕ) (samples : List SampleValues) (ticks : Ticks) (levels : List Bool)
    : Type 0 where
  pub covered : IsCovered origin (times_of samples) ticks
  pub many : length levels ≡ ticks.count
  pub each : (t : ℕ) (level : Bool) → slice_get levels t ≡ Some level
      → HasLevel samples (instant_of ticks t - origin) level

-- what is answered of an id
abbrev pub IsChannelNamed : Named → Result ℕ RecordFault → Type 0
IsChannelNamed named (Ok channel) = named ≡ One channel
IsChannelNamed named (Err e) = (e ≡ fault.NoChannel × named ≡ Nothing) ⊎ (e ≡ fault.ManyChannels × named ≡ More)

-- why a part of a record could not be read, seen as a fault of the record
abbrev pub seen_as : {F : Type 0} → (F → RecordFault) → Stopped F → Stopped RecordFault
seen_as of_record (stopped.Fault fault) = stopped.Fault (of_record fault)
seen_as of_record stopped.Memory = stopped.Memory
