-- How a list of gates grows.
use Rattle.std.specs.Prelude.{◌≡◌, ◌≢◌, ◌<◌, ◌≤◌, ◌+◌, ◌++◌, ℕ, List, [], ◌∷◌, Some, length}
use Rattle.std.specs.Prelude.{slice_get, Result, IfOk, OnErr}
use Rattle.model_line.specs.declared.line.Line.{Line}
use Rattle.model_logic.specs.{Tree.Tree, Names.Names}
use Rattle.model_plain.specs.declared.formula.Formula.{Formula}
use Rattle.model_plain.specs.declared.formula.Program.{Program}
use Rattle.model_plain.specs.Formulas.{operations, operations_of, program_operations, own_tree}
use Rattle.model_plain.specs.Formulas.{AreNamed}
use Rattle.net_gates.specs.{declared.gate.Gate.Gate, declared.gate.GateId.GateId}
use Rattle.net_gates.specs.Formulas.{formula_of, kind_over, Stands}
use Rattle.net_gates.specs.Named.{GateNames, KeepsNames}

-- the old gates stand under their numbers, for the trees that they stood for
pub record Grows (old new : List Gate) : Type 0 where
  pub kept : (i : ℕ) → i < length old → slice_get new i ≡ slice_get old i
  pub longer : length old ≤ length new
  pub same : (i : ℕ) → i < length old → formula_of new i ≡ formula_of old i

-- the gate has this number. One that stood already has its old number and nothing changed, a new
-- one goes last.
pub record Adds (old new : List Gate) (gate : Gate) (id : ℕ) : Type 0 where
  pub at : slice_get new id ≡ Some gate
  pub known : (i : ℕ) → slice_get old i ≡ Some gate → (new ≡ old) × (id ≡ i)
  pub last : ((i : ℕ) → slice_get old i ≢ Some gate) → (new ≡ old ++ gate ∷ []) × (id ≡ length old)

-- what the call for a gate answers, and what it leaves
pub record Makes {E : Type 0} (old new : List Gate) (gate : Gate) (result : Result GateId E)
    : Type 0 where
  pub ok : IfOk result (λ id. Adds old new gate id.0)
  pub made : IfOk result (λ id. Stands new id.0 (kind_over old gate))
  pub grows : Grows old new
  pub named : (line : Line) → GateNames line gate → KeepsNames line old new
  pub few : length new ≤ length old + 1
  pub err : OnErr result (new ≡ old)

-- the old gates stand under their numbers, at most one was added for each operation of this tree,
-- and where it names only what a line has, so do those
pub record Extends (tree : Tree) (old new : List Gate) : Type 0 where
  pub grows : Grows old new
  pub few : length new ≤ length old + operations tree
  pub named : (line : Line) → Names line tree → KeepsNames line old new

-- the same of parts, each over those before it
pub record ExtendsByParts (parts : List Formula) (old new : List Gate) : Type 0 where
  pub grows : Grows old new
  pub few : length new ≤ length old + operations_of parts
  pub named : (line : Line) → AreNamed line parts → KeepsNames line old new

-- and of a program
pub record ExtendsByProgram (program : Program) (old new : List Gate) : Type 0 where
  pub grows : Grows old new
  pub few : length new ≤ length old + program_operations program
  pub named : (line : Line) → AreNamed line program.parts.items
      → Names line (own_tree program.key) → Names line (own_tree program.trip)
      → KeepsNames line old new

-- the old gates stand under their numbers, and those that were added, at most so many, name only
-- what the line has
pub record ExtendsFor (line : Line) (most : ℕ) (old new : List Gate) : Type 0 where
  pub grows : Grows old new
  pub few : length new ≤ length old + most
  pub named : KeepsNames line old new
