-- At each tick the sample of that tick holds, and its level is the one there.
use Rattle.std.proofs.Common.{◌≡◌, ◌≢◌, ◌<◌, ◌+◌, ◌-◌, ◌*◌, ◌∙◌, ℕ, suc, Bool, false}
use Rattle.std.proofs.Common.{List, [], ◌∷◌, length, get_or, map, Some, Ok, Err, ap}
use Rattle.std.proofs.Common.{sym, arith, subst}
use Rattle.std.proofs.Math.Nat.{suc-mul, mul_assoc}
use Rattle.std.proofs.lemmas.List.{ext_get_or, length-map, get_or-map}
use Rattle.std.proofs.lemmas.List.FromFn.{get_or-map-range_with_len, length-map-range_with_len}
use Rattle.std.proofs.lemmas.Option.{slice_get-get_or, slice_get_within, get_or_from_slice_get}
use Rattle.std.specs.List.{range_with_len, slice_get}
use Rattle.std.specs.Prelude.{slice_index}
use Rattle.file_comtrade.specs.Config.{ConfigValues, config_of}
use Rattle.file_comtrade.specs.{Data.SampleValues, Data.samples_of, Levels.NeverFalls}
use Rattle.file_comtrade.specs.{LevelLaws.holds_once}
use Rattle.file_comtrade.specs.{Levels.level_in, Ticks.IsHolding, Ticks.IsCovered, Ticks.instant_of}
use Rattle.file_comtrade.specs.Record.{AreAt, Files, HasLevel, times_of}
use Rattle.file_comtrade.specs.declared.channel.Named.{Named}
use Rattle.file_comtrade.specs.declared.channel.Named.TheVariants.{Nothing, One, More}
use Rattle.file_comtrade.specs.declared.fault.{ConfigFault.ConfigFault, DataFault.DataFault}
use Rattle.file_comtrade.specs.declared.record.RecordFault.{RecordFault}
use Rattle.file_comtrade.specs.declared.record.RecordFault.TheVariants as fault
use Rattle.file_comtrade.specs.declared.ticks.Ticks.{Ticks}
use Rattle.file_comtrade.specs.declared.ticks.TickFault.{TickFault}
use Rattle.file_records.specs.map.Sources.{ChannelSaid}
use Rattle.file_records.specs.tracks.Channels.{AreLevels, AreMissing, AreSamples, IsPicked, IsRefused, picked}
use Rattle.file_records.proofs.recorded_lemmas.DataBack.{sample_of, so_far}

-- ---- the times of the samples

module _ (us : ℕ) (level : ℕ → Bool) (n : ℕ) where
  times_long : length (times_of (so_far us level n)) ≡ n
  times_long =
      length-map (so_far us level n) (λ (s : SampleValues). s.time)
      ∙ length-map-range_with_len (sample_of us level) 0 n

  time_at : (k : ℕ) → k < n → slice_index (times_of (so_far us level n)) k ≡ k * us * 1000
  time_at k within =
      let long = length-map-range_with_len (sample_of us level) 0 n in
      get_or-map (λ (s : SampleValues). s.time) (so_far us level n) k (sample_of us level 0) 0 (omega arith)
      ∙ ap (λ (s : SampleValues). s.time)
      (get_or-map-range_with_len (sample_of us level) 0 n k k (sample_of us level 0) within (omega arith))

  pub never_falls : NeverFalls (times_of (so_far us level n))
  never_falls = λ k within.
      let long = times_long in
      let here = time_at k (omega arith) in
      let next = time_at (k + 1) (omega arith) in
      let one : suc k ≡ k + 1 = omega arith in
      let more : suc k * us ≡ k * us + us = suc-mul k us in
      let step : (k + 1) * us ≡ k * us + us = sym (ap (λ (m : ℕ). m * us) one) ∙ more in
      omega arith

  holds_there : 0 < us → (t : ℕ) → t < n → IsHolding (times_of (so_far us level n)) (t * us * 1000) t
  holds_there some t within = record {
    inside = (let long = times_long in omega arith);
    begun = (let here = time_at t within in omega arith);
    last = λ behind.
        let long = times_long in
        let next = time_at (t + 1) (omega arith) in
        let one : suc t ≡ t + 1 = omega arith in
        let more : suc t * us ≡ t * us + us = suc-mul t us in
        let step : (t + 1) * us ≡ t * us + us = sym (ap (λ (m : ℕ). m * us) one) ∙ more in
        omega arith;
  }

  level_there : (t : ℕ) → t < n → level t ≡ level_in 0 (slice_get (so_far us level n) t)
  level_there t within =
      let f = sample_of us level in
      let long = length-map-range_with_len f 0 n in
      sym (ap (level_in 0)
      (slice_get-get_or (so_far us level n) t (f 0) (omega arith)
      ∙ ap (λ (s : SampleValues). Some s)
      (get_or-map-range_with_len f 0 n t t (f 0) within (omega arith))))

  abbrev pub levels_all : List Bool
  levels_all = map level (range_with_len 0 n)

  pub are_at : (origin : ℕ) → 0 < us → 0 < n
      → AreAt origin (so_far us level n) (record { start = origin; tick = us * 1000; count = n }) levels_all
  are_at origin some many = record {
    covered = record {
      begins = (let first = time_at 0 (omega arith) in omega arith);
      ends =
          (let long = times_long in
          let at : length (times_of (so_far us level n)) - 1 ≡ n - 1 = omega arith in
          let last = ap (slice_index (times_of (so_far us level n))) at ∙ time_at (n - 1) (omega arith) in
          let same : (n - 1) * us * 1000 ≡ (n - 1) * (us * 1000) = mul_assoc (n - 1) us 1000 in
          omega arith);
    };
    many = length-map-range_with_len level 0 n;
    each = λ t l e.
        let long = length-map-range_with_len level 0 n in
        let inside = slice_get_within levels_all t l e in
        let within : t < n = omega arith in
        let same : t * us * 1000 ≡ t * (us * 1000) = mul_assoc t us 1000 in
        let at : t * us * 1000 ≡ origin + t * (us * 1000) - origin = omega arith in
        let is : level t ≡ l =
        sym (get_or-map-range_with_len level 0 n t t false within (omega arith))
        ∙ get_or_from_slice_get levels_all t l false e in
        record {
          sample = t;
          holds = subst (λ (i : ℕ). IsHolding (times_of (so_far us level n)) i t) at (holds_there some t within);
          is = sym is ∙ level_there t within;
        };
  }

-- ---- there is one answer

same_level : (samples : List SampleValues) (instant : ℕ) (a b : Bool) → NeverFalls (times_of samples)
    → HasLevel samples instant a → HasLevel samples instant b → a ≡ b
same_level samples instant a b never here there =
    let one = holds_once (times_of samples) instant here.sample there.sample never here.holds there.holds in
    here.is ∙ ap (λ (i : ℕ). level_in 0 (slice_get samples i)) one ∙ sym there.is

same_levels : (origin : ℕ) (samples : List SampleValues) (ticks : Ticks) (a b : List Bool)
    → NeverFalls (times_of samples) → AreAt origin samples ticks a → AreAt origin samples ticks b → a ≡ b
same_levels origin samples ticks a b never first second =
    let first_many = first.many in
    let second_many = second.many in
    ext_get_or false a b (first.many ∙ sym second.many) (λ t within.
    same_level samples (instant_of ticks t - origin) (get_or a t false) (get_or b t false) never
    (first.each t (get_or a t false) (slice_get-get_or a t false within))
    (second.each t (get_or b t false) (slice_get-get_or b t false (omega arith))))

-- what both files say of a channel
pub record AreSaid (files : Files) (channel : ChannelSaid) (config : ConfigValues) (i : ℕ)
    (samples : List SampleValues) : Type 0 where
  pub says : config_of files.dates files.config ≡ Ok config
  pub names : picked config.digital channel ≡ One i
  pub read : samples_of config (i ∷ []) files.samples ≡ Ok samples
  pub never : NeverFalls (times_of samples)

module _ (files : Files) (channel : ChannelSaid) (ticks : Ticks) (config : ConfigValues) (i : ℕ)
    (samples : List SampleValues) (said : AreSaid files channel config i samples) (levels : List Bool)
    (there : AreAt config.first samples ticks levels) where
  pub levels_are : AreLevels files channel ticks levels
  levels_are = record {
    config = config;
    samples = samples;
    said = record {
      index = i;
      alone = record { says = said.says; names = said.names };
      read = said.read;
    };
    there = there;
  }

  same_config : (other : ConfigValues) → config_of files.dates files.config ≡ Ok other → other ≡ config
  same_config other says = let both : Ok config ≡ Ok other = sym said.says ∙ says in cc

  picks : (other : ConfigValues) (named : Named) → IsPicked files channel other named → One i ≡ named
  picks other named is =
      sym said.names
      ∙ ap (λ (c : ConfigValues). picked c.digital channel) (sym (same_config other is.says))
      ∙ is.names

  same_index : (other : ConfigValues) (j : ℕ) → IsPicked files channel other (One j) → j ≡ i
  same_index other j is = let both = picks other (One j) is in cc

  same_samples : (other : ConfigValues) (others : List SampleValues)
      → AreSamples files channel other others → others ≡ samples
  same_samples other others is =
      let c = same_config other is.alone.says in
      let j = same_index other is.index is.alone in
      let both : Ok samples ≡ Ok others =
      sym said.read
      ∙ ap (λ (d : ConfigValues). samples_of d (i ∷ []) files.samples) (sym c)
      ∙ ap (λ (n : ℕ). samples_of other (n ∷ []) files.samples) (sym j)
      ∙ is.read in
      cc

  pub only_levels : (others : List Bool) → AreLevels files channel ticks others → others ≡ levels
  only_levels others are =
      let c = same_config are.config are.said.alone.says in
      let s = same_samples are.config are.samples are.said in
      let own : AreAt config.first samples ticks others =
      subst (λ (d : ConfigValues). AreAt d.first samples ticks others) c
      (subst (λ (x : List SampleValues). AreAt are.config.first x ticks others) s are.there) in
      same_levels config.first samples ticks others levels said.never own there

  none_named : (named : Named) → (One i ≡ named → ⊥) → (other : ConfigValues)
      → IsPicked files channel other named → ⊥
  none_named named apart other is = apart (picks other named is)

  no_config : (f : ConfigFault) → config_of files.dates files.config ≢ Err f
  no_config f refused = let both : Ok config ≡ Err f = sym said.says ∙ refused in cc

  no_data : (f : DataFault) (other : ConfigValues) (j : ℕ) → IsPicked files channel other (One j)
      → samples_of other (j ∷ []) files.samples ≢ Err f
  no_data f other j alone refused =
      let c = same_config other alone.says in
      let k = same_index other j alone in
      let both : Ok samples ≡ Err f =
      sym said.read
      ∙ ap (λ (d : ConfigValues). samples_of d (i ∷ []) files.samples) (sym c)
      ∙ ap (λ (n : ℕ). samples_of other (n ∷ []) files.samples) (sym k)
      ∙ refused in
      cc

  no_gap : (f : TickFault) → ¬ AreMissing files channel ticks f
  no_gap f refused =
      let c = same_config refused.config refused.said.alone.says in
      let s = same_samples refused.config refused.samples refused.said in
      refused.missing.0
      (subst (λ (d : ConfigValues). IsCovered d.first (times_of refused.samples) ticks) (sym c)
      (subst (λ (x : List SampleValues). IsCovered config.first (times_of x) ticks) (sym s) there.covered))

  -- it is not refused
  pub accepted : (f : RecordFault) → ¬ IsRefused files channel ticks f
  accepted (fault.Config f) refused = no_config f refused
  accepted fault.NoChannel refused = none_named Nothing (λ e. cc) refused.config refused.found
  accepted fault.ManyChannels refused = none_named More (λ e. cc) refused.config refused.found
  accepted (fault.Data form f) refused =
      no_data f refused.config refused.index refused.alone refused.refused
  accepted (fault.Ticks f) refused = no_gap f refused
