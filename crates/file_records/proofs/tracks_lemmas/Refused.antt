-- Why a channel has no levels at ticks.
use Rattle.std.proofs.Common.{◌≡◌, ◌∙◌, ◌∷◌, ℕ, List, [], Ok, Err, inl, inr, refl, subst, sym}
use Rattle.base_memory.specs.{Gives.Fails, Gives.OfFault, declared.stopped.Stopped.Stopped}
use Rattle.base_memory.specs.declared.stopped.Stopped.TheVariants as stopped
use Rattle.file_comtrade.specs.{Config.ConfigValues, Config.config_of, Data.SampleValues}
use Rattle.file_comtrade.specs.{Data.samples_of, Ticks.IsTickFault}
use Rattle.file_comtrade.specs.Record.{Files, IsChannelNamed, seen_as, times_of}
use Rattle.file_comtrade.specs.declared.channel.Named.{Named}
use Rattle.file_comtrade.specs.declared.channel.Named.TheVariants.{One}
use Rattle.file_comtrade.specs.declared.fault.{ConfigFault.ConfigFault, DataFault.DataFault}
use Rattle.file_comtrade.specs.declared.record.RecordFault.{RecordFault}
use Rattle.file_comtrade.specs.declared.record.RecordFault.TheVariants as fault
use Rattle.file_comtrade.specs.declared.ticks.{TickFault.TickFault, Ticks.Ticks}
use Rattle.file_records.specs.map.Sources.{ChannelSaid}
use Rattle.file_records.specs.tracks.Channels.{AreSamples, IsGap, IsPicked, IsRefused, picked}

-- not each tick has a sample
pub gap_seen : (first : ℕ) (times : List ℕ) (samples : List SampleValues) (ticks : Ticks)
    (why : Stopped TickFault) (told : Stopped RecordFault) → times ≡ times_of samples
    → told ≡ seen_as (λ f. fault.Ticks f) why → OfFault (IsTickFault first times ticks) why
    → OfFault (IsGap first samples ticks) told
gap_seen first times samples ticks (stopped.Fault f) told same is gap =
    subst (λ (t : Stopped RecordFault). OfFault (IsGap first samples ticks) t) (sym is)
    (subst (λ (ts : List ℕ). IsTickFault first ts ticks f) same gap)
gap_seen first times samples ticks stopped.Memory told same is gap =
    subst (λ (t : Stopped RecordFault). OfFault (IsGap first samples ticks) t) (sym is) tt

module _ (files : Files) (channel : ChannelSaid) (ticks : Ticks) where
  -- no channel is named, or more than one
  pub none_named : (config : ConfigValues) (named : Named) (told : RecordFault)
      → config_of files.dates files.config ≡ Ok config → IsChannelNamed named (Err told)
      → named ≡ picked config.digital channel → IsRefused files channel ticks told
  none_named config named told says refused names = elim refused [
    | inl none ↦
        subst (λ (t : RecordFault). IsRefused files channel ticks t) (sym none.0)
        (record { config = config; found = record { says = says; names = sym names ∙ none.1 } })
    | inr more ↦
        subst (λ (t : RecordFault). IsRefused files channel ticks t) (sym more.0)
        (record { config = config; found = record { says = says; names = sym names ∙ more.1 } })
  ]

  pub config_refused : (why : Stopped ConfigFault) (told : Stopped RecordFault)
      → told ≡ seen_as (λ f. fault.Config f) why → Fails why (config_of files.dates files.config)
      → OfFault (IsRefused files channel ticks) told
  config_refused (stopped.Fault f) told is refused =
      subst (λ (t : Stopped RecordFault). OfFault (IsRefused files channel ticks) t) (sym is) refused
  config_refused stopped.Memory told is refused =
      subst (λ (t : Stopped RecordFault). OfFault (IsRefused files channel ticks) t) (sym is) tt

  pub data_refused : (config : ConfigValues) (index : ℕ) (why : Stopped DataFault)
      (told : Stopped RecordFault) → IsPicked files channel config (One index)
      → told ≡ seen_as (λ f. fault.Data config.form f) why
      → Fails why (samples_of config (index ∷ []) files.samples)
      → OfFault (IsRefused files channel ticks) told
  data_refused config index (stopped.Fault f) told alone is refused =
      subst (λ (t : Stopped RecordFault). OfFault (IsRefused files channel ticks) t) (sym is)
      (record {
        config = config;
        written = refl;
        index = index;
        alone = alone;
        refused = refused;
      })
  data_refused config index stopped.Memory told alone is refused =
      subst (λ (t : Stopped RecordFault). OfFault (IsRefused files channel ticks) t) (sym is) tt

  pub gap_refused : (config : ConfigValues) (samples : List SampleValues)
      (why : Stopped RecordFault) → AreSamples files channel config samples
      → OfFault (IsGap config.first samples ticks) why → OfFault (IsRefused files channel ticks) why
  gap_refused config samples (stopped.Fault (fault.Ticks f)) said gap =
      record { config = config; samples = samples; said = said; missing = gap }
  gap_refused config samples (stopped.Fault (fault.Config f)) said gap = absurd gap
  gap_refused config samples (stopped.Fault fault.NoChannel) said gap = absurd gap
  gap_refused config samples (stopped.Fault fault.ManyChannels) said gap = absurd gap
  gap_refused config samples (stopped.Fault (fault.Data form f)) said gap = absurd gap
  gap_refused config samples stopped.Memory said gap = tt
