-- What the samples of a channel are beside its levels at ticks: how far they reach, and how often the
-- level changes from one to the next.
use Rattle.std.specs.Prelude.{◌≡◌, ◌+◌, ◌-◌, ℕ, zero, suc, Bool, List, if◌then◌else◌}
use Rattle.std.specs.Bool.{beq}
use Rattle.std.specs.List.{slice_get}
use Rattle.file_comtrade.specs.{Config.ConfigValues, Data.SampleValues, Levels.level_in}
use Rattle.file_comtrade.specs.Record.{Files, times_of}
use Rattle.file_comtrade.specs.Ticks.{IsHolding, first_instant, instant_of, last_instant}
use Rattle.file_comtrade.specs.declared.ticks.Ticks.{Ticks}
use Rattle.file_records.specs.map.Sources.{ChannelSaid}
use Rattle.file_records.specs.tracks.Channels.{AreSamples}
use Rattle.file_records.specs.declared.tracks.samples.Sampled.{Sampled}

-- the level of the chosen channel in the sample with this index
abbrev pub level_of : List SampleValues → ℕ → Bool
level_of samples k = level_in 0 (slice_get samples k)

-- 1 where the level of the next sample is another
abbrev pub change_after : List SampleValues → ℕ → ℕ
change_after samples k = if beq (level_of samples k) (level_of samples (k + 1)) then 0 else 1

-- how often it changes from one sample to the next, in so many steps from a sample on
abbrev pub changes_from : List SampleValues → ℕ → ℕ → ℕ
changes_from samples from zero = 0
changes_from samples from (suc n) = changes_from samples from n + change_after samples (from + n)

-- How long before tick 0 the first sample stands, and how long after it the last; how often the level
-- changes between samples, from the one that holds at tick 0 up to the one that holds at the last tick.
pub record AreSampled (origin : ℕ) (samples : List SampleValues) (ticks : Ticks) (s : Sampled)
    : Type 0 where
  pub from : ℕ
  pub to : ℕ
  pub begins : IsHolding (times_of samples) (instant_of ticks 0 - origin) from
  pub ends : IsHolding (times_of samples) (instant_of ticks (ticks.count - 1) - origin) to
  pub before : s.before ≡ ticks.start - first_instant origin (times_of samples)
  pub after : s.after ≡ last_instant origin (times_of samples) - ticks.start
  pub changes : s.changes ≡ changes_from samples from (to - from)

-- so it is of the one channel that is named
pub record IsSampled (files : Files) (channel : ChannelSaid) (ticks : Ticks) (s : Sampled)
    : Type 0 where
  pub config : ConfigValues
  pub samples : List SampleValues
  pub said : AreSamples files channel config samples
  pub are : AreSampled config.first samples ticks s
