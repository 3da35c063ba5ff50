-- Each setting that the logic names is a parameter of the line, and each channel exists.
use Rattle.std.proofs.Common.{◌≡◌, ◌≢◌, ℕ, ◌+◌, ◌*◌, ◌<◌, true, false, List, []}
use Rattle.std.proofs.Common.{length, take}
use Rattle.std.proofs.Common.{get_or, Option, Some, None, refl, sym, ap, subst}
use Rattle.std.proofs.lemmas.List.{get_or-map, get_or_default}
use Rattle.std.specs.Prelude.{unwrap_or, is_some}
use Rattle.std.specs.List.{list_any}
use Rattle.model_line.specs.Settings.{settings_of_terminals, channel_settings, terminal_settings}
use Rattle.model_line.specs.Settings.{groups_with, all_of, same_setting}
use Rattle.model_line.specs.Parameters.{param_number, terminal_count}
use Rattle.model_line.specs.PositionLaws.{terminal_number, channel_number_of}
use Rattle.model_line.specs.{declared.line.Line.Line, declared.line.Terminal.Terminal}
use Rattle.model_line.specs.{declared.line.Owner.Owner, declared.line.Setting.Setting}
use Rattle.model_line.specs.{Channels.channel_number, ChannelLaws.channel_ends}
use Rattle.model_line.specs.declared.line.Owner.TheVariants as owner
use Rattle.model_line.specs.SettingPlaceLaws.{has_place}
use Rattle.model_logic.specs.Names.{IsChannelTo, HasSettingsOf, IsOwnParam, HasOwnTime}
use Rattle.model_logic.specs.Elements.{is_guarded, is_weak, setting_of}
use Rattle.model_logic.specs.Received.{channel_to}

-- a setting with a number in the list is one of the terminal's, where its owner is
own_number : (line : Line) (k : ℕ) (o : Owner) (x : Setting) (i : ℕ) → HasSettingsOf line k o
    → param_number line o x ≡ Some i → HasOwnTime line k (setting_of line o x)
unfolding setting_of
own_number line k o x i own number =
    subst (λ (n : ℕ). IsOwnParam line k n) (sym (ap (λ n. unwrap_or n 0) number))
    (record { of = o; setting = x; own = own; number = number })

-- a setting of the terminal's list is the terminal's
pub own_setting : (line : Line) (k : ℕ) (x : Setting) → k < terminal_count line
    → list_any (same_setting x)
    (all_of (groups_with line.scheme (is_guarded line k) (is_weak line k))) ≡ true
    → HasOwnTime line k (setting_of line (owner.Terminal k) x)
own_setting line k x lt has =
    let ts : List Terminal = line.terminals.items in
    let d : Terminal = record { name = []; weak = false; guard = false } in
    let t : Terminal = get_or ts k d in
    let is : t ≡ get_or ts k t = get_or_default ts k d t lt in
    let guard : is_guarded line k ≡ t.guard = get_or-map (λ u. u.guard) ts k d false lt in
    let weak : is_weak line k ≡ t.weak = get_or-map (λ u. u.weak) ts k d false lt in
    let place = has_place (terminal_settings line.scheme t) x (rw (← guard, ← weak) has) in
    own_number line k (owner.Terminal k) x
    (length (settings_of_terminals line.scheme 0 (take k ts)) + place.0) refl
    (rw (terminal_number line k x t lt is, place.1))

-- a setting of a channel's list is that of the terminal at its end
pub own_channel_setting : (line : Line) (k c : ℕ) (x : Setting) → IsChannelTo line k c
    → list_any (same_setting x) (channel_settings line.scheme) ≡ true
    → HasOwnTime line k (setting_of line (owner.Channel c) x)
own_channel_setting line k c x own has =
    let place = has_place (channel_settings line.scheme) x has in
    own_number line k (owner.Channel c) x
    (length (settings_of_terminals line.scheme 0 line.terminals.items)
    + c * length (channel_settings line.scheme) + place.0) own
    (rw (channel_number_of line c x own.exists, place.1))

-- a channel between two terminals exists, and ends at the one that receives
pub own_channel : (line : Line) (k j : ℕ) → k < terminal_count line → j < terminal_count line
    → j ≢ k → IsChannelTo line k (channel_to line k j)
unfolding channel_to
own_channel line k j lt jt ne =
    from (channel_number line.channels.items j k) refl (line.pairs_once.found j k jt lt ne) where
      from : (o : Option ℕ) → channel_number line.channels.items j k ≡ o → is_some o ≡ true
          → IsChannelTo line k (unwrap_or o 0)
      from None e s = absurd (cc)
      from (Some c) e s =
          let ends = channel_ends line.channels.items j k c e in
          record { exists = ends.0; to = ends.2 }
