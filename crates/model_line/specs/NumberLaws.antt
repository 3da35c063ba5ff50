-- The numbers of a line's parameters: as many as settings, and each channel has a delay.
use Rattle.std.proofs.Common.{◌≡◌, ◌||◌, ℕ, zero, suc, ◌+◌, ◌<◌, true, false, List, [], ◌∷◌, length}
use Rattle.std.proofs.Common.{Option, Some, None, refl, sym, ap, ◌∙◌, subst, arith, eq-eqb}
use Rattle.std.proofs.lemmas.List.{length-map}
use Rattle.std.specs.Prelude.{is_some}
use Rattle.std.specs.List.{list_any}
use Rattle.model_line.specs.Settings.{OwnedSetting, owned_by, settings_of_terminals}
use Rattle.model_line.specs.Settings.{settings_of_channels, channel_settings, line_settings}
use Rattle.model_line.specs.Settings.{is_owned_setting, same_owner, same_setting, setting_number}
use Rattle.model_line.specs.Parameters.{param_number, param_count}
use Rattle.model_line.specs.FirstPositionLaws.{is_some-position, list_any-append_left}
use Rattle.model_line.specs.FirstPositionLaws.{list_any-append_right}
use Rattle.model_line.specs.declared.line.Setting.TheVariants.{Delay}
use Rattle.model_line.specs.{declared.line.Line.Line, declared.line.Scheme.TheVariants.Pott}
use Rattle.model_line.specs.{declared.line.Channel.Channel, declared.line.Scheme.Scheme}
use Rattle.model_line.specs.{declared.line.Owner.Owner, declared.line.Setting.Setting}
use Rattle.model_line.specs.declared.line.Owner.TheVariants as owner
pub use Rattle.model_line.specs.FirstPositionLaws.{position_within}

pub same_owner-refl : (o : Owner) → same_owner o o ≡ true
same_owner-refl (owner.Terminal k) = eq-eqb k k refl
same_owner-refl (owner.Channel c) = eq-eqb c c refl

pub length-owned_by : (o : Owner) (ss : List Setting) → length (owned_by o ss) ≡ length ss
length-owned_by o ss = simp length-map

list_any-owned_by :
    (o : Owner) (x : Setting) (ss : List Setting) → list_any (same_setting x) ss ≡ true →
    list_any (is_owned_setting o x) (owned_by o ss) ≡ true
list_any-owned_by o x [] h = absurd (cc)
list_any-owned_by o x (s ∷ ss) h =
    rw same_owner-refl
    (elim (same_setting x s)
    as (λ b. b || list_any (same_setting x) ss ≡ true →
    b || list_any (is_owned_setting o x) (owned_by o ss) ≡ true)
    [ true ↦ λ _. refl | false ↦ λ e. list_any-owned_by o x ss e ] h)

has_delay : (s : Scheme) → list_any (same_setting Delay) (channel_settings s) ≡ true
has_delay Pott = refl
has_delay _ = refl

module _
    (s : Scheme) (x : Setting) (has : list_any (same_setting x) (channel_settings s) ≡ true) where
  -- the setting of channel j + c stands among those of the channels from j on
  list_any-settings_of_channels :
      (cs : List Channel) (j c : ℕ) → c < length cs →
      list_any (is_owned_setting (owner.Channel (j + c)) x) (settings_of_channels s j cs) ≡ true
  list_any-settings_of_channels [] j c h = absurd (omega arith)
  list_any-settings_of_channels (d ∷ cs) j zero h =
      let e : j ≡ j + zero = omega arith in
      subst
      (λ n. list_any (is_owned_setting (owner.Channel n) x) (settings_of_channels s j (d ∷ cs))
      ≡ true)
      e
      (list_any-append_left (is_owned_setting (owner.Channel j) x)
      (owned_by (owner.Channel j) (channel_settings s)) (settings_of_channels s (j + 1) cs)
      (list_any-owned_by (owner.Channel j) x (channel_settings s) has))
  list_any-settings_of_channels (d ∷ cs) j (suc c) h =
      let e : j + 1 + c ≡ j + suc c = omega arith in
      let less : c < length cs = omega arith in
      list_any-append_right (is_owned_setting (owner.Channel (j + suc c)) x)
      (owned_by (owner.Channel j) (channel_settings s)) (settings_of_channels s (j + 1) cs)
      (subst
      (λ n. list_any (is_owned_setting (owner.Channel n) x)
      (settings_of_channels s (j + 1) cs) ≡ true)
      e (list_any-settings_of_channels cs (j + 1) c less))

-- a setting that stands in the list has a number, within the list
number_of_setting :
    (ks : List OwnedSetting) (o : Owner) (x : Setting) → list_any (is_owned_setting o x) ks ≡ true →
    (i : ℕ) × (setting_number ks o x ≡ Some i) × (i < length ks)
number_of_setting ks o x h =
    from (setting_number ks o x) refl (is_some-position (is_owned_setting o x) 0 ks ∙ h) where
      from :
          (r : Option ℕ) → setting_number ks o x ≡ r → is_some r ≡ true →
          (i : ℕ) × (r ≡ Some i) × (i < length ks)
      from None e s = absurd (cc)
      from (Some i) e s =
          let below : i < 0 + length ks = position_within (is_owned_setting o x) 0 i ks e in
          (i, refl, omega arith)

-- as many parameters as settings
pub length-line_settings :
    (line : Line) →
    length (line_settings line.scheme line.terminals.items line.channels.items)
    ≡ length line.params.items
length-line_settings line = simp length-map at (sym (ap length line.param_names))

-- each channel's delay has a number, within the parameters
pub delay_number :
    (line : Line) (c : ℕ) → c < length line.channels.items →
    (i : ℕ) × (param_number line (owner.Channel c) Delay ≡ Some i) × (i < length line.params.items)
unfolding line_settings
delay_number line c h =
    let s : Scheme = line.scheme in
    let cs : List Channel = line.channels.items in
    let terminals : List OwnedSetting = settings_of_terminals s 0 line.terminals.items in
    let channels : List OwnedSetting = settings_of_channels s 0 cs in
    let e : 0 + c ≡ c = omega arith in
    let here : list_any (is_owned_setting (owner.Channel c) Delay) channels ≡ true =
    subst (λ n. list_any (is_owned_setting (owner.Channel n) Delay) channels ≡ true) e
    (list_any-settings_of_channels s Delay (has_delay s) cs 0 c h) in
    let n = number_of_setting (line_settings s line.terminals.items cs) (owner.Channel c) Delay
    (list_any-append_right (is_owned_setting (owner.Channel c) Delay) terminals channels here) in
    let same : length (line_settings s line.terminals.items cs) ≡ length line.params.items =
    length-line_settings line in
    (n.0, n.1, omega (arith, n.2))

-- the number of a setting is that of a parameter
pub number_within : (line : Line) (o : Owner) (x : Setting) (i : ℕ)
    → param_number line o x ≡ Some i → i < param_count line
number_within line o x i number =
    let all : List OwnedSetting =
    line_settings line.scheme line.terminals.items line.channels.items in
    let within : i < 0 + length all = position_within (is_owned_setting o x) 0 i all number in
    let same : length all ≡ param_count line = length-line_settings line in
    omega arith
