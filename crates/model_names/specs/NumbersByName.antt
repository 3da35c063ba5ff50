-- The numbers of terminals, channels, parameters and scripts by their names: each time that of the
-- first of the name.
use Rattle.std.specs.Prelude.{ℕ, Bool, List, Option}
use Rattle.std.specs.List.{position_from}
use Rattle.std.specs.Str.{bytes_eq}
use Rattle.model_line.specs.{declared.line.Line.Line, declared.line.Channel.Channel}
use Rattle.model_line.specs.{declared.line.Terminal.Terminal, declared.script.Script.Script}
use Rattle.model_line.specs.ParamNames.{pair_name}

abbrev pub terminal_named : Line → List ℕ → Option ℕ
terminal_named line name = position_from (λ t. bytes_eq t.name name) 0 line.terminals.items

-- the channel has this name, as `A>B`
abbrev pub has_name : List Terminal → List ℕ → Channel → Bool
has_name terminals name channel = bytes_eq (pair_name terminals channel) name

abbrev pub channel_named : Line → List ℕ → Option ℕ
channel_named line name =
    position_from (has_name line.terminals.items name) 0 line.channels.items

abbrev pub param_named : Line → List ℕ → Option ℕ
param_named line name = position_from (λ p. bytes_eq p.name name) 0 line.params.items

abbrev pub script_named : List Script → List ℕ → Option ℕ
script_named scripts name = position_from (λ s. bytes_eq s.name name) 0 scripts
