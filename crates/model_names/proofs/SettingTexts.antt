-- The texts of settings differ among those of one owner, and none has an `@`.
use Rattle.std.proofs.Common.{◌≡◌, ◌&&◌, Bool, true, not, List, [], ◌∷◌, refl}
use Rattle.std.specs.List.{list_all}
use Rattle.std.specs.Str.{bytes_eq}
use Rattle.model_line.specs.Settings.{groups_with, all_of, channel_settings}
use Rattle.model_line.specs.declared.line.Scheme.TheVariants.{Pott}
use Rattle.model_line.specs.declared.line.Setting.TheVariants.{Z1Pickup}
use Rattle.model_line.specs.{declared.line.Scheme.Scheme, declared.line.Setting.Setting}
use Rattle.model_line.specs.{ParamNames.setting_text, SettingFlagLaws.with_flags}
use Rattle.model_names.specs.ParamNamesApart.{has_no}

pub text_has_no_at : (x : Setting) → has_no 64 (setting_text x) ≡ true
text_has_no_at Z1Pickup = refl
text_has_no_at _ = refl

-- none of these has the text of the setting
abbrev pub is_other_text : Setting → Setting → Bool
is_other_text x y = not (bytes_eq (setting_text x) (setting_text y))

-- no two have one text
abbrev pub differ : List Setting → Bool
differ [] = true
differ (x ∷ xs) = list_all (is_other_text x) xs && differ xs

pub terminal_settings_differ : (s : Scheme) (g w : Bool) → differ (all_of (groups_with s g w)) ≡ true
terminal_settings_differ Pott =
    with_flags (λ g w. differ (all_of (groups_with Pott g w)) ≡ true) refl refl refl refl
terminal_settings_differ s =
    with_flags (λ g w. differ (all_of (groups_with s g w)) ≡ true) refl refl refl refl

pub channel_settings_differ : (s : Scheme) → differ (channel_settings s) ≡ true
channel_settings_differ Pott = refl
channel_settings_differ _ = refl
