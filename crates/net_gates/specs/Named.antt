-- What gates name of a line.
use Rattle.std.specs.Prelude.{◌≡◌, ◌<◌, ◌≤◌, ℕ, List, Some, slice_get}
use Rattle.model_line.specs.Parameters.{terminal_count, channel_count}
use Rattle.model_line.specs.declared.line.Line.{Line}
use Rattle.model_logic.specs.Names.{HasTime}
use Rattle.net_gates.specs.declared.gate.Gate.{Gate}
use Rattle.net_gates.specs.declared.gate.Gate.TheVariants.{Const, Seen, Loss, Raw, Not, And, Or}
use Rattle.net_gates.specs.declared.gate.Gate.TheVariants.{Timer, Seal}

-- every terminal, channel and parameter that the gate names is the line's
abbrev pub GateNames : Line → Gate → Type 0
GateNames line (Const v) = Unit {0}
GateNames line (Seen p) = p.terminal < terminal_count line
GateNames line (Loss c) = c < channel_count line
GateNames line (Raw c) = c < channel_count line
GateNames line (Not a) = Unit {0}
GateNames line (And a b) = Unit {0}
GateNames line (Or a b) = Unit {0}
GateNames line (Timer a p d) = HasTime line p × HasTime line d
GateNames line (Seal a b) = Unit {0}

-- so it is for each gate from number n on
pub record NamedFrom (line : Line) (n : ℕ) (gates : List Gate) : Type 0 where
  pub each : (i : ℕ) (g : Gate) → n ≤ i → slice_get gates i ≡ Some g → GateNames line g

-- the gates that were added name what the line has: if those from number n on did before, for any
-- n, then so do they now
abbrev pub KeepsNames : Line → List Gate → List Gate → Type 0
KeepsNames line old new = (n : ℕ) → NamedFrom line n old → NamedFrom line n new
