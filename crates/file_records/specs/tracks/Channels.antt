-- The levels, at ticks, of the digital channel that a map names.
use Rattle.std.specs.Prelude.{◌≡◌, ◌&&◌, ◌-◌, ℕ, Bool, List, [], ◌∷◌, length, nat_le, nat_lt, Ok, Err}
use Rattle.std.specs.Prelude.{if◌then◌else◌}
use Rattle.file_comtrade.specs.{Config.ConfigValues, Config.config_of, Data.SampleValues}
use Rattle.file_comtrade.specs.{Data.samples_of, Named.named_in}
use Rattle.file_comtrade.specs.Record.{Files, AreAt, times_of}
use Rattle.file_comtrade.specs.Ticks.{IsTickFault}
use Rattle.file_comtrade.specs.declared.channel.Named.{Named}
use Rattle.file_comtrade.specs.declared.channel.Named.TheVariants.{Nothing, One, More}
use Rattle.file_comtrade.specs.declared.config.Form.{Form}
use Rattle.file_comtrade.specs.declared.fault.DataFault.{DataFault}
use Rattle.file_comtrade.specs.declared.record.RecordFault.{RecordFault}
use Rattle.file_comtrade.specs.declared.record.RecordFault.TheVariants as fault
use Rattle.file_comtrade.specs.declared.ticks.TickFault.{TickFault}
use Rattle.file_comtrade.specs.declared.ticks.Ticks.{Ticks}
use Rattle.file_records.specs.map.Sources.{ChannelSaid, id, number}

-- channel n of so many, the first being 1
abbrev pub numbered : ℕ → ℕ → Named
numbered count n = if nat_lt 0 n && nat_le n count then One (n - 1) else Nothing

-- what is named among the ids of digital channels
abbrev pub picked : List (List ℕ) → ChannelSaid → Named
picked ids (id bytes) = named_in ids bytes
picked ids (number n) = numbered (length ids) n

-- what is named among the digital channels that the configuration says
pub record IsPicked (files : Files) (channel : ChannelSaid) (config : ConfigValues) (named : Named)
    : Type 0 where
  pub says : config_of files.dates files.config ≡ Ok config
  pub names : picked config.digital channel ≡ named

-- what the data say of the one channel that is named
pub record AreSamples (files : Files) (channel : ChannelSaid) (config : ConfigValues)
    (samples : List SampleValues) : Type 0 where
  pub index : ℕ
  pub alone : IsPicked files channel config (One index)
  pub read : samples_of config (index ∷ []) files.samples ≡ Ok samples

-- its levels at the ticks, each that of the sample that holds there
pub record AreLevels (files : Files) (channel : ChannelSaid) (ticks : Ticks) (levels : List Bool)
    : Type 0 where
  pub config : ConfigValues
  pub samples : List SampleValues
  pub said : AreSamples files channel config samples
  pub there : AreAt config.first samples ticks levels

-- ---- why there are none

pub record NamesNone (files : Files) (channel : ChannelSaid) (named : Named) : Type 0 where
  pub config : ConfigValues
  pub found : IsPicked files channel config named

-- data of this form
pub record AreRefused (files : Files) (channel : ChannelSaid) (form : Form) (f : DataFault)
    : Type 0 where
  pub config : ConfigValues
  pub written : config.form ≡ form
  pub index : ℕ
  pub alone : IsPicked files channel config (One index)
  pub refused : samples_of config (index ∷ []) files.samples ≡ Err f

pub record AreMissing (files : Files) (channel : ChannelSaid) (ticks : Ticks) (f : TickFault)
    : Type 0 where
  pub config : ConfigValues
  pub samples : List SampleValues
  pub said : AreSamples files channel config samples
  pub missing : IsTickFault config.first (times_of samples) ticks f

-- not each tick has a sample, where the first is taken at this instant
abbrev pub IsGap : ℕ → List SampleValues → Ticks → RecordFault → Type 0
IsGap first samples ticks (fault.Ticks f) = IsTickFault first (times_of samples) ticks f
IsGap first samples ticks _ = ⊥

abbrev pub IsRefused : Files → ChannelSaid → Ticks → RecordFault → Type 0
IsRefused files channel ticks (fault.Config f) = config_of files.dates files.config ≡ Err f
IsRefused files channel ticks fault.NoChannel = NamesNone files channel Nothing
IsRefused files channel ticks fault.ManyChannels = NamesNone files channel More
IsRefused files channel ticks (fault.Data form f) = AreRefused files channel form f
IsRefused files channel ticks (fault.Ticks f) = AreMissing files channel ticks f
