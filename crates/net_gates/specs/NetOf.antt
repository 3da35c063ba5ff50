-- A finished net, and when it is the net of a line.
use Rattle.std.specs.Prelude.{◌≡◌, ◌<◌, ℕ, List, length, map, get_or}
use Rattle.model_line.specs.{declared.line.Line.Line, Parameters.terminal_count}
use Rattle.model_logic.specs.Logic.{key_tree, trip_tree}
use Rattle.net_gates.specs.{declared.gate.Gate.Gate, declared.gate.GateId.GateId, Gates.AreGates}
use Rattle.net_gates.specs.{Formulas.formula_of, Named.NamedFrom}

-- the gates in order, and the gates of each terminal's key and trip
pub record NetOf : Type 0 where
  pub gates : List Gate
  pub keys : List GateId
  pub trips : List GateId

-- the number of the k-th of these gates
abbrev pub id_at : List GateId → ℕ → ℕ
id_at ids k = get_or (map (λ id. id.0) ids) k 0

-- the number of the gate of a terminal's key, and of its trip
abbrev pub key_of : NetOf → ℕ → ℕ
key_of net k = id_at net.keys k

abbrev pub trip_of : NetOf → ℕ → ℕ
trip_of net k = id_at net.trips k

-- each of these is the number of one of n gates
abbrev pub AreGatesOf : List GateId → ℕ → Type 0
AreGatesOf ids n = (k : ℕ) → k < length ids → id_at ids k < n

-- the laws of a net: those of its gates, and each key and trip is one of them
pub record IsNet (net : NetOf) : Type 0 where
  pub gates : AreGates net.gates
  pub keys : AreGatesOf net.keys (length net.gates)
  pub trips : AreGatesOf net.trips (length net.gates)
  pub same : length net.trips ≡ length net.keys

-- the net of a line: each terminal has its key and its trip, they stand for the trees of the
-- written logic, and every gate names only what the line has
pub record IsNetOf (line : Line) (net : NetOf) : Type 0 where
  pub laws : IsNet net
  pub terminals : length net.keys ≡ terminal_count line
  pub keys : (k : ℕ) → k < terminal_count line
      → formula_of net.gates (key_of net k) ≡ key_tree line k
  pub trips : (k : ℕ) → k < terminal_count line
      → formula_of net.gates (trip_of net k) ≡ trip_tree line k
  pub named : NamedFrom line 0 net.gates
