-- The names of a line's parameters: the owner, a dot and the setting.
use Rattle.std.specs.Prelude.{[], ◌++◌, ℕ, List, ◌∷◌, Option, Some, None, map, get_or}
use Rattle.std.specs.Prelude.{slice_get}
use Rattle.std.specs.List.{flat_map}
use Rattle.model_line.specs.Settings.{OwnedSetting, terminal_settings, channel_settings, table_key}
use Rattle.model_line.specs.Settings.{time_key}
use Rattle.model_line.specs.declared.line.Setting.{Setting}
use Rattle.model_line.specs.{declared.line.Scheme.Scheme, declared.line.Terminal.Terminal}
use Rattle.model_line.specs.{declared.line.Channel.Channel, declared.line.Owner.Owner}
use Rattle.model_line.specs.declared.line.Owner.TheVariants as owner

-- A key of the table at a path: both, with a dot between them. The path of a file is empty.
abbrev pub key_path : List ℕ → List ℕ → List ℕ
key_path [] key = key
key_path (b ∷ path) key = (b ∷ path) ++ (46 ∷ key)

-- a setting as it is written: its key in its table
abbrev pub setting_text : Setting → List ℕ
setting_text s = key_path (table_key s) (time_key s)

-- the name of terminal k
abbrev pub name_at : List Terminal → ℕ → List ℕ
name_at ts k = get_or (map (λ t. t.name) ts) k []

-- the name of a channel: the sender's, `>` and the receiver's
abbrev pub pair_name : List Terminal → Channel → List ℕ
pair_name ts c = name_at ts c.from ++ (62 ∷ name_at ts c.to)

abbrev pub channel_name : List Terminal → Option Channel → List ℕ
channel_name ts None = []
channel_name ts (Some c) = pair_name ts c

-- the name of an owner
abbrev pub owner_name : List Terminal → List Channel → Owner → List ℕ
owner_name ts cs (owner.Terminal k) = name_at ts k
owner_name ts cs (owner.Channel c) = channel_name ts (slice_get cs c)

-- an owner's name with a dot and a setting
abbrev pub dotted : List ℕ → Setting → List ℕ
dotted name s = name ++ (46 ∷ setting_text s)

-- the name of a parameter
unfoldable pub param_name : List Terminal → List Channel → OwnedSetting → List ℕ
param_name ts cs k = dotted (owner_name ts cs k.owner) k.setting

-- the names of the terminals' parameters, in order
abbrev pub terminal_names : Scheme → List Terminal → List (List ℕ)
terminal_names s ts = flat_map (λ t. map (dotted t.name) (terminal_settings s t)) ts

-- the names of the channels' parameters, in order
abbrev pub channel_names : Scheme → List Terminal → List Channel → List (List ℕ)
channel_names s ts cs = flat_map (λ c. map (dotted (pair_name ts c)) (channel_settings s)) cs
