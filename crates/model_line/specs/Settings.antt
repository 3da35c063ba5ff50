-- The settings of terminals and channels, their keys, and the list of a line's parameters.
use Rattle.std.specs.Prelude.{◌&&◌, ◌+◌, ◌++◌, ℕ, Bool, true, false, List, [], ◌∷◌, Option, map}
use Rattle.std.specs.Prelude.{codes}
use Rattle.std.specs.List.{flat_map, position_from}
use Rattle.model_line.specs.declared.line.Scheme.TheVariants.{Pott, Putt, Dcb, Dcub, Dtt}
use Rattle.model_line.specs.declared.line.Setting.TheVariants.{Z1Pickup, Z1Dropout, Z2Pickup}
use Rattle.model_line.specs.declared.line.Setting.TheVariants.{Z2Dropout, RvPickup, RvDropout}
use Rattle.model_line.specs.declared.line.Setting.TheVariants.{UvPickup, UvDropout, ReversalPickup}
use Rattle.model_line.specs.declared.line.Setting.TheVariants.{ReversalDropout, EchoBlock}
use Rattle.model_line.specs.declared.line.Setting.TheVariants.{EchoPickup, EchoPulse, BlockCarry}
use Rattle.model_line.specs.declared.line.Setting.TheVariants.{BlockCoord, TransferSecurity, Delay}
use Rattle.model_line.specs.declared.line.Setting.TheVariants.{UnblockPickup, UnblockWindow}
use Rattle.model_line.specs.declared.line.Setting.TheVariants.{UnblockRestore}
use Rattle.model_line.specs.declared.line.Setting.{Setting}
use Rattle.model_line.specs.{declared.line.Scheme.Scheme, declared.line.Terminal.Terminal}
use Rattle.model_line.specs.{declared.line.Channel.Channel, declared.line.Owner.Owner}
use Rattle.model_line.specs.declared.line.Owner.TheVariants as owner
use Rattle.model_line.specs.contracts.line.SettingPartialEq.TheImpl.{eq-value as setting_eq}
use Rattle.model_line.specs.contracts.line.OwnerPartialEq.TheImpl.{eq-value as owner_eq}

-- the key of the table in which a line file has a setting, none for a channel's delay, and the key
-- of the setting there
abbrev pub setting_keys : Setting → List ℕ × List ℕ
setting_keys Z1Pickup = (codes "z1", codes "pickup")
setting_keys Z1Dropout = (codes "z1", codes "dropout")
setting_keys Z2Pickup = (codes "z2", codes "pickup")
setting_keys Z2Dropout = (codes "z2", codes "dropout")
setting_keys RvPickup = (codes "rv", codes "pickup")
setting_keys RvDropout = (codes "rv", codes "dropout")
setting_keys UvPickup = (codes "uv", codes "pickup")
setting_keys UvDropout = (codes "uv", codes "dropout")
setting_keys ReversalPickup = (codes "reversal", codes "pickup")
setting_keys ReversalDropout = (codes "reversal", codes "dropout")
setting_keys EchoBlock = (codes "echo", codes "block")
setting_keys EchoPickup = (codes "echo", codes "pickup")
setting_keys EchoPulse = (codes "echo", codes "pulse")
setting_keys BlockCarry = (codes "block", codes "carry")
setting_keys BlockCoord = (codes "block", codes "coord")
setting_keys TransferSecurity = (codes "transfer", codes "security")
setting_keys Delay = ([], codes "delay")
setting_keys UnblockPickup = (codes "unblock", codes "pickup")
setting_keys UnblockWindow = (codes "unblock", codes "window")
setting_keys UnblockRestore = (codes "unblock", codes "restore")

abbrev pub table_key : Setting → List ℕ
table_key s = (setting_keys s).0

abbrev pub time_key : Setting → List ℕ
time_key s = (setting_keys s).1

-- the pickup and dropout of each element
abbrev pub zone1_settings : List Setting
zone1_settings = Z1Pickup ∷ Z1Dropout ∷ []

abbrev pub zone2_settings : List Setting
zone2_settings = Z2Pickup ∷ Z2Dropout ∷ []

abbrev pub reverse_settings : List Setting
reverse_settings = RvPickup ∷ RvDropout ∷ []

abbrev pub undervoltage_settings : List Setting
undervoltage_settings = UvPickup ∷ UvDropout ∷ []

-- what a guarded terminal has besides
abbrev pub guard_settings : Bool → List Setting
guard_settings true = ReversalPickup ∷ ReversalDropout ∷ []
guard_settings false = []

-- what a weak terminal has besides
abbrev pub weak_settings : Bool → List Setting
weak_settings true = EchoBlock ∷ EchoPickup ∷ EchoPulse ∷ []
weak_settings false = []

-- what a terminal has besides in a blocking or a transfer trip scheme
abbrev pub scheme_settings : Scheme → List Setting
scheme_settings Dcb = BlockCarry ∷ BlockCoord ∷ []
scheme_settings Dtt = TransferSecurity ∷ []
scheme_settings Pott = []
scheme_settings Putt = []
scheme_settings Dcub = []

-- what a channel has besides its delay in an unblocking scheme
abbrev pub receiver_settings : Scheme → List Setting
receiver_settings Dcub = UnblockPickup ∷ UnblockWindow ∷ UnblockRestore ∷ []
receiver_settings Pott = []
receiver_settings Putt = []
receiver_settings Dcb = []
receiver_settings Dtt = []

-- the settings of a terminal, guarded (g) and weak (w) or not, group by group: one for each table
abbrev pub groups_with : Scheme → Bool → Bool → List (List Setting)
groups_with s g w =
    zone1_settings ∷ zone2_settings ∷ reverse_settings ∷ undervoltage_settings ∷ guard_settings g
    ∷ weak_settings w ∷ scheme_settings s ∷ []

abbrev pub terminal_groups : Scheme → Terminal → List (List Setting)
terminal_groups s t = groups_with s t.guard t.weak

-- those of a channel, the delay alone in a group
abbrev pub channel_groups : Scheme → List (List Setting)
channel_groups s = (Delay ∷ []) ∷ receiver_settings s ∷ []

-- the settings of groups, in order
abbrev pub all_of : List (List Setting) → List Setting
all_of groups = flat_map (λ group. group) groups

-- the settings of a terminal, and of a channel, in order
abbrev pub terminal_settings : Scheme → Terminal → List Setting
terminal_settings s t = all_of (terminal_groups s t)

abbrev pub channel_settings : Scheme → List Setting
channel_settings s = all_of (channel_groups s)

-- a parameter: whose it is, and which setting
pub record OwnedSetting : Type 0 where
  pub owner : Owner
  pub setting : Setting

-- these settings of one owner
abbrev pub owned_by : Owner → List Setting → List OwnedSetting
owned_by o ss = map (λ s. record { owner = o; setting = s }) ss

-- the parameters of terminals, the first of which has number k
abbrev pub settings_of_terminals : Scheme → ℕ → List Terminal → List OwnedSetting
settings_of_terminals s k [] = []
settings_of_terminals s k (t ∷ ts) =
    owned_by (owner.Terminal k) (terminal_settings s t) ++ settings_of_terminals s (k + 1) ts

-- the parameters of channels, the first of which has number c
abbrev pub settings_of_channels : Scheme → ℕ → List Channel → List OwnedSetting
settings_of_channels s c [] = []
settings_of_channels s c (h ∷ cs) =
    owned_by (owner.Channel c) (channel_settings s) ++ settings_of_channels s (c + 1) cs

-- the parameters of a line, in order: the terminals' and then the channels'
unfoldable pub line_settings : Scheme → List Terminal → List Channel → List OwnedSetting
line_settings s ts cs = settings_of_terminals s 0 ts ++ settings_of_channels s 0 cs

-- two settings, and two owners, are compared as `==` compares them
abbrev pub same_setting : Setting → Setting → Bool
same_setting a b = setting_eq.it a b

abbrev pub same_owner : Owner → Owner → Bool
same_owner a b = owner_eq.it a b

abbrev pub is_owned_setting : Owner → Setting → OwnedSetting → Bool
is_owned_setting o x k = same_owner o k.owner && same_setting x k.setting

-- the place of a setting in a list
abbrev pub setting_place : List Setting → Setting → Option ℕ
setting_place ss x = position_from (same_setting x) 0 ss

-- the number of a parameter: its place in the list
abbrev pub setting_number : List OwnedSetting → Owner → Setting → Option ℕ
setting_number ks o x = position_from (is_owned_setting o x) 0 ks
