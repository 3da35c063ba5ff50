-- A line's parameters by number: where a setting stands, what is declared for it.
use Rattle.std.specs.Prelude.{◌<◌, ◌==◌, ◌+◌, ◌/◌, ℕ, Bool, Option, length, map, get_or, unwrap_or}
use Rattle.model_history.specs.{Elements.some_below, Rails.Ends}
use Rattle.model_line.specs.Settings.{line_settings, setting_number}
use Rattle.model_line.specs.{declared.line.Line.Line, declared.line.Owner.Owner}
use Rattle.model_line.specs.{declared.line.Setting.Setting, declared.line.Setting.TheVariants.Delay}
use Rattle.model_line.specs.declared.line.Owner.TheVariants as owner

-- how many terminals, channels and parameters a line has
abbrev pub terminal_count : Line → ℕ
terminal_count line = length line.terminals.items

abbrev pub channel_count : Line → ℕ
channel_count line = length line.channels.items

abbrev pub param_count : Line → ℕ
param_count line = length line.params.items

-- the line has this terminal, or this channel
abbrev pub IsOwner : Line → Owner → Type 0
IsOwner line (owner.Terminal k) = k < terminal_count line
IsOwner line (owner.Channel c) = c < channel_count line

-- the number of an owner's setting in the list of parameters
abbrev pub param_number : Line → Owner → Setting → Option ℕ
param_number line o x =
    setting_number (line_settings line.scheme line.terminals.items line.channels.items) o x

-- the number of a channel's delay
abbrev pub delay_param : Line → ℕ → ℕ
delay_param line c = unwrap_or (param_number line (owner.Channel c) Delay) 0

-- parameter i is the delay of some channel
unfoldable pub is_delay : Line → ℕ → Bool
is_delay line i = some_below (λ c. delay_param line c == i) (channel_count line)

-- the declared interval of a parameter
abbrev pub declared_ends : Line → ℕ → Ends
declared_ends line i = record {
  least = get_or (map (λ p. p.least) line.params.items) i 0;
  greatest = get_or (map (λ p. p.greatest) line.params.items) i 0;
}

-- its middle; of two middle ones the earlier
abbrev pub declared_middle : Line → ℕ → ℕ
declared_middle line i = ((declared_ends line i).least + (declared_ends line i).greatest) / 2
