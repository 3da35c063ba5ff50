-- Trees that name only what a line has, and only what one terminal of it has.
use Rattle.std.specs.Prelude.{◌≡◌, ◌<◌, ℕ, Some}
use Rattle.model_line.specs.Parameters.{terminal_count, channel_count, param_count, param_number}
use Rattle.model_line.specs.{declared.line.Line.Line, declared.line.Owner.Owner}
use Rattle.model_line.specs.{declared.line.Setting.Setting, Channels.to_of}
use Rattle.model_line.specs.declared.line.Owner.TheVariants as owner
use Rattle.model_logic.specs.declared.time.Time.TheVariants.{Zero, Param}
use Rattle.model_logic.specs.Tree.{Tree, Const, Seen, Loss, Raw, Not, And, Or, Timer, Seal}
use Rattle.model_logic.specs.declared.time.Time.{Time}

-- the line has the parameter that the time names, if it names one
abbrev pub HasTime : Line → Time → Type 0
HasTime line Zero = Unit {0}
HasTime line (Param i) = i < param_count line

-- each place, channel and parameter of the tree is one of the line's
unfoldable pub Names : Line → Tree → Type 0
Names line (Const v) = Unit {0}
Names line (Seen p) = p.terminal < terminal_count line
Names line (Loss c) = c < channel_count line
Names line (Raw c) = c < channel_count line
Names line (Not x) = Names line x
Names line (And x y) = Names line x × Names line y
Names line (Or x y) = Names line x × Names line y
Names line (Timer x p d) = Names line x × (HasTime line p × HasTime line d)
Names line (Seal x y) = Names line x × Names line y

-- the trees of all terminals name only what the line has
abbrev pub AllNamed : Line → (ℕ → Tree) → Type 0
AllNamed line trees = (k : ℕ) → k < terminal_count line → Names line (trees k)

-- ---- what terminal k has of its own

-- channel c ends at terminal k
pub record IsChannelTo (line : Line) (k c : ℕ) : Type 0 where
  pub exists : c < channel_count line
  pub to : to_of line.channels.items c ≡ k

-- its settings are those of the terminal and of the channels to it
abbrev pub HasSettingsOf : Line → ℕ → Owner → Type 0
HasSettingsOf line k (owner.Terminal j) = j ≡ k
HasSettingsOf line k (owner.Channel c) = IsChannelTo line k c

-- parameter i is one of its settings
pub record IsOwnParam (line : Line) (k i : ℕ) : Type 0 where
  pub of : Owner
  pub setting : Setting
  pub own : HasSettingsOf line k of
  pub number : param_number line of setting ≡ Some i

-- the time is no parameter, or one of its settings
abbrev pub HasOwnTime : Line → ℕ → Time → Type 0
HasOwnTime line k Zero = Unit {0}
HasOwnTime line k (Param i) = IsOwnParam line k i

-- the tree names only elements that terminal k sees, channels to it, and settings that the line
-- has for these
unfoldable pub IsLocal : Line → ℕ → Tree → Type 0
IsLocal line k (Const v) = Unit {0}
IsLocal line k (Seen p) = p.terminal ≡ k
IsLocal line k (Loss c) = IsChannelTo line k c
IsLocal line k (Raw c) = IsChannelTo line k c
IsLocal line k (Not x) = IsLocal line k x
IsLocal line k (And x y) = IsLocal line k x × IsLocal line k y
IsLocal line k (Or x y) = IsLocal line k x × IsLocal line k y
IsLocal line k (Timer x p d) = IsLocal line k x × (HasOwnTime line k p × HasOwnTime line k d)
IsLocal line k (Seal x y) = IsLocal line k x × IsLocal line k y
