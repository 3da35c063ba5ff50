-- The gates of a program.
use Rattle.std.specs.Prelude.{◌≡◌, ℕ, List, [], length}
use Rattle.model_line.specs.declared.line.Line.{Line}
use Rattle.model_logic.specs.{Tree.Tree, Logic.key_tree, Logic.trip_tree}
use Rattle.model_plain.specs.declared.formula.{Formula.Formula, Program.Program}
use Rattle.model_plain.specs.Formulas.{tree_of, trees_after, part_trees}
use Rattle.net_gates.specs.{declared.gate.Gate.Gate, declared.gate.GateId.GateId}
use Rattle.net_gates.specs.{Formulas.Stands, Formulas.trees_of, NetOf.AreGatesOf}
use Rattle.net_compile.specs.declared.program_gates.Ends.{Ends}

-- the gates of parts, in order
pub record ArePartGates (parts : List Formula) (gates : List Gate) (ids : List GateId)
    : Type 0 where
  pub within : AreGatesOf ids (length gates)
  pub trees : trees_of gates ids ≡ trees_after [] parts

-- the gates stand for the program's key and its trip
pub record AreEnds (program : Program) (gates : List Gate) (ends : Ends) : Type 0 where
  pub key_gate : Stands gates ends.key.0 (tree_of (part_trees program) program.key)
  pub trip_gate : Stands gates ends.trip.0 (tree_of (part_trees program) program.trip)

-- the gates stand for what terminal k sends and for its trip
pub record AreEndsOf (line : Line) (k : ℕ) (gates : List Gate) (ends : Ends) : Type 0 where
  pub key_gate : Stands gates ends.key.0 (key_tree line k)
  pub trip_gate : Stands gates ends.trip.0 (trip_tree line k)
