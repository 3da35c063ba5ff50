-- The text of a net.
use Rattle.std.specs.Prelude.{[], ◌++◌, ℕ, zero, suc, Bool, true, false, List, ◌∷◌, Option, Some}
use Rattle.std.specs.Prelude.{None, codes, decimal, length, slice_get}
use Rattle.model_logic.specs.declared.time.Time.TheVariants.{Zero, Param}
use Rattle.model_logic.specs.declared.time.Time.{Time}
use Rattle.model_line.specs.ParamNames.{name_at, channel_name}
use Rattle.model_line.specs.Parameters.{terminal_count}
use Rattle.model_line.specs.{declared.line.Line.Line, declared.script.Place.Place}
use Rattle.model_line.specs.NamesByNumber.{element_text, parameter_name}
use Rattle.net_gates.specs.declared.gate.Gate.TheVariants.{Const, Seen, Loss, Raw, Not, And, Or}
use Rattle.net_gates.specs.declared.gate.Gate.TheVariants.{Timer, Seal}
use Rattle.net_gates.specs.declared.gate.GateId.{GateId}
use Rattle.net_gates.specs.{declared.gate.Gate.Gate, NetOf.NetOf, NetOf.key_of, NetOf.trip_of}

-- a truth value, and an element, as they are written
abbrev pub truth_text : Bool → List ℕ
truth_text true = codes "true"
truth_text false = codes "false"

-- an element of a terminal, as `A.z2`
abbrev pub place_text : Line → Place → List ℕ
place_text line p = name_at line.terminals.items p.terminal ++ (46 ∷ element_text p.element)

-- a channel, as `A>B`
abbrev pub channel_text : Line → ℕ → List ℕ
channel_text line c = channel_name line.terminals.items (slice_get line.channels.items c)

-- a time: the name of its parameter, or `0`
abbrev pub time_text : Line → Time → List ℕ
time_text line Zero = codes "0"
time_text line (Param i) = parameter_name line i

-- two gates, with a space between
abbrev pub pair_text : GateId → GateId → List ℕ
pair_text a b = decimal a.0 ++ (32 ∷ decimal b.0)

-- a gate: its kind, and what it is over
abbrev pub gate_text : Line → Gate → List ℕ
gate_text line (Const v) = truth_text v
gate_text line (Seen p) = codes "seen " ++ place_text line p
gate_text line (Loss c) = codes "loss " ++ channel_text line c
gate_text line (Raw c) = codes "raw " ++ channel_text line c
gate_text line (Not a) = codes "not " ++ decimal a.0
gate_text line (And a b) = codes "and " ++ pair_text a b
gate_text line (Or a b) = codes "or " ++ pair_text a b
gate_text line (Timer a p d) =
    codes "timer " ++ (decimal a.0 ++ (32 ∷ (time_text line p ++ (32 ∷ time_text line d))))
gate_text line (Seal a b) = codes "seal " ++ pair_text a b

abbrev pub shown_gate : Line → Option Gate → List ℕ
shown_gate line None = []
shown_gate line (Some g) = gate_text line g

-- the line of gate i: its number and the gate
unfoldable pub gate_line : Line → List Gate → ℕ → List ℕ
gate_line line gates i = decimal i ++ (32 ∷ (shown_gate line (slice_get gates i) ++ (10 ∷ [])))

-- a line that names the gate of something of terminal k
abbrev pub end_line : List ℕ → Line → ℕ → ℕ → List ℕ
end_line word line k id =
    word ++ (name_at line.terminals.items k ++ (32 ∷ (decimal id ++ (10 ∷ []))))

-- the lines of terminal k: its key and then its trip
unfoldable pub terminal_lines : Line → NetOf → ℕ → List ℕ
terminal_lines line net k =
    end_line (codes "key ") line k (key_of net k) ++ end_line (codes "trip ") line k (trip_of net k)

-- the lines of the numbers below n, in order
abbrev pub lines_below : (ℕ → List ℕ) → ℕ → List ℕ
lines_below line_at zero = []
lines_below line_at (suc n) = lines_below line_at n ++ line_at n

-- the text of a net: the number of its gates, each gate, and then each terminal
unfoldable pub net_text_of : Line → NetOf → List ℕ
net_text_of line net =
    codes "net " ++ (decimal (length net.gates) ++ (10 ∷ []))
    ++ lines_below (gate_line line net.gates) (length net.gates)
    ++ lines_below (terminal_lines line net) (terminal_count line)
