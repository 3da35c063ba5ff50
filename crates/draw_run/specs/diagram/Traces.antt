-- What the rows of a diagram are of, and the pair that each has at a tick.
use Rattle.std.specs.Prelude.{◌++◌, ◌==◌, ◌<◌, ℕ, Bool, true, false, List, [], ◌∷◌}
use Rattle.std.specs.Prelude.{Option, Some, None, if◌then◌else◌}
use Rattle.std.specs.List.{flat_map}
use Rattle.model_history.specs.Each.{each_below}
use Rattle.model_history.specs.Rails.{Rails, both}
use Rattle.model_line.specs.declared.script.Element.TheVariants.{Z1, Z2, Rv, Uv, Cur}
use Rattle.model_line.specs.Parameters.{terminal_count, channel_count}
use Rattle.model_line.specs.Seen.{is_seen, is_lost}
use Rattle.model_line.specs.{declared.script.Element.Element, declared.line.Line.Line}
use Rattle.model_line.specs.{declared.script.Script.Script, Channels.to_of}
use Rattle.model_logic.specs.Histories.{History, PairHistory}
use Rattle.model_logic.specs.PairMean.{PairSignals}
use Rattle.net_gates.specs.declared.gate.Gate.{Gate}
use Rattle.run_step.specs.GatePairs.{GateSignals}
use Rattle.draw_gates.specs.roles.Lookup.{gate_of}
use Rattle.model_plain.specs.{declared.role.Role.Role, declared.role.NamedPart.NamedPart}
use Rattle.model_plain.specs.Roles.{explains, roles_at}
use Rattle.draw_run.specs.declared.diagram.trace.Trace.{Trace}
use Rattle.draw_run.specs.declared.diagram.trace.Trace.TheVariants.{Seen, Lost, Logic, Key, Trip}

abbrev pub seen_by : ℕ → Element → Trace
seen_by k element = Seen (record { element = element; terminal = k })

-- all that terminal k may see
abbrev pub seen_at : ℕ → List Trace
seen_at k =
    seen_by k Z1 ∷ (seen_by k Z2 ∷ (seen_by k Rv ∷ (seen_by k Uv ∷ (seen_by k Cur ∷ []))))

-- channel c, if it leads to terminal k
abbrev pub loss_at : Line → ℕ → ℕ → List Trace
loss_at line k c = if to_of line.channels.items c == k then Lost c ∷ [] else []

-- the gate that has a role, if the role explains and the net has one
abbrev pub logic_row : Bool → Role → Option ℕ → List Trace
logic_row true role (Some gate) = Logic role gate ∷ []
logic_row true role None = []
logic_row false role gate = []

abbrev pub logic_of : Line → List Gate → Role → List Trace
logic_of line gates role = logic_row (explains role) role (gate_of line gates role)

-- that of a named part
abbrev pub logic_of_part : Line → List Gate → NamedPart → List Trace
logic_of_part line gates part = logic_of line gates part.role

-- what terminal k receives and makes of it, each a gate of the net by its role
abbrev pub logic_at : Line → List Gate → ℕ → List Trace
logic_at line gates k = flat_map (logic_of line gates) (roles_at line k)

abbrev pub traces_at : Line → List Gate → ℕ → List Trace
traces_at line gates k =
    seen_at k ++ each_below (channel_count line) (loss_at line k) ++ logic_at line gates k
    ++ (Key k ∷ (Trip k ∷ []))

abbrev pub traces_of : Line → List Gate → List Trace
traces_of line gates = each_below (terminal_count line) (traces_at line gates)

-- the line, or a net of so many gates, has what the row is of
abbrev pub IsTraceOf : Line → ℕ → Trace → Type 0
IsTraceOf line gates (Seen place) = place.terminal < terminal_count line
IsTraceOf line gates (Lost c) = c < channel_count line
IsTraceOf line gates (Logic role gate) = gate < gates
IsTraceOf line gates (Key k) = k < terminal_count line
IsTraceOf line gates (Trip k) = k < terminal_count line

-- the pairs that a diagram shows, of each key, each trip and each gate at each tick
pub record ShownPairs : Type 0 where
  pub key : PairSignals
  pub trip : PairSignals
  pub gate : GateSignals

-- those of a history and of gates
abbrev pub pairs_shown : PairHistory → GateSignals → ShownPairs
pairs_shown w gates = record { key = w.key; trip = w.trip; gate = gates }

-- the pair of a row at a tick: what the script shows is known, keys, trips and gates are those that
-- are shown
abbrev pub trace_pair : Script → ShownPairs → Trace → ℕ → Rails
trace_pair script w (Seen place) t = both (is_seen script.spans.items place t)
trace_pair script w (Lost c) t = both (is_lost script.spans.items c t)
trace_pair script w (Logic role gate) t = w.gate gate t
trace_pair script w (Key k) t = w.key k t
trace_pair script w (Trip k) t = w.trip k t

-- a history of one choice: each value is known
abbrev pub known_history : History → PairHistory
known_history h = record { key = λ k t. both (h.key k t); trip = λ k t. both (h.trip k t) }
