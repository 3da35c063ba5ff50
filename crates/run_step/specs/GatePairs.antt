-- The pairs of a net's gates.
use Rattle.std.specs.Prelude.{◌≡◌, ℕ, List, Some, slice_get}
use Rattle.model_history.specs.Rails.{Rails, both, rails_not, rails_and, rails_or, rails_timed}
use Rattle.model_history.specs.Rails.{rails_sealed, rails_delayed}
use Rattle.model_logic.specs.PairMean.{PairWorld, PairSignals, pair_mean}
use Rattle.model_logic.specs.Choice.{Box, pair_world_of}
use Rattle.model_logic.specs.{Logic.key_tree, Solution.the_keys}
use Rattle.model_line.specs.{declared.line.Line.Line, declared.script.Script.Script}
use Rattle.net_gates.specs.declared.gate.Gate.TheVariants.{Const, Seen, Loss, Raw, Not, And, Or}
use Rattle.net_gates.specs.declared.gate.Gate.TheVariants.{Timer, Seal}
use Rattle.net_gates.specs.{declared.gate.Gate.Gate, Formulas.formula_of, Gates.AreGates}
use Rattle.net_gates.specs.{NetOf.NetOf}

-- a pair for each gate at each tick
abbrev pub GateSignals : Type 0
GateSignals = ℕ → ℕ → Rails

-- the pair of a gate at a tick: that of the tree that it stands for
unfoldable pub gate_pairs : PairWorld → PairSignals → List Gate → GateSignals
gate_pairs w keys gates i t = pair_mean w keys (formula_of gates i) t

-- the pairs of a net's gates over the interval history of its line
abbrev pub line_pairs : Line → Script → Box → NetOf → GateSignals
line_pairs line script box net =
    let w = pair_world_of line script box in
    gate_pairs w (the_keys w (key_tree line)) net.gates

-- a gate's own kind over the pairs u of all gates
abbrev pub kind_pair : PairWorld → PairSignals → GateSignals → Gate → ℕ → Rails
kind_pair w keys u (Const v) t = both v
kind_pair w keys u (Seen p) t = w.seen p t
kind_pair w keys u (Loss c) t = w.lost c t
kind_pair w keys u (Raw c) t = rails_delayed (keys (w.from c)) (w.delay c t) t
kind_pair w keys u (Not a) t = rails_not (u a.0 t)
kind_pair w keys u (And a b) t = rails_and (u a.0 t) (u b.0 t)
kind_pair w keys u (Or a b) t = rails_or (u a.0 t) (u b.0 t)
kind_pair w keys u (Timer a p d) t = rails_timed (u a.0) (w.time p) (w.time d) t
kind_pair w keys u (Seal a b) t = rails_sealed (u a.0) (u b.0) t

-- each gate has the pair of its own kind over the pairs of its arguments
abbrev pub GatesHaveTheirKind : Type 0
GatesHaveTheirKind = (w : PairWorld) (keys : PairSignals) (gates : List Gate) (i : ℕ) (g : Gate)
    (t : ℕ) → AreGates gates → slice_get gates i ≡ Some g
    → gate_pairs w keys gates i t ≡ kind_pair w keys (gate_pairs w keys gates) g t
