-- The rows of masks: two of each weak terminal. The first is at the gate that its echo starts from, the
-- second at the one that tells that its pulse is over.
use Rattle.std.specs.Prelude.{◌≡◌, ◌≢◌, ◌<◌, ◌*◌, ◌/◌, ◌%◌, ◌==◌, ℕ, Bool, true, false, IsTrue, List}
use Rattle.std.specs.Prelude.{Option, None, Some, length, slice_get}
use Rattle.model_line.specs.{declared.line.Line.Line, Parameters.terminal_count}
use Rattle.model_logic.specs.{Elements.is_weak, Tree.Tree}
use Rattle.model_settle.specs.Assumed.{wanted, pulse_over}
use Rattle.net_gates.specs.{NetOf.NetOf, Formulas.formula_of}

-- of a terminal, what its echo starts from; or the timer that tells that its pulse is over
abbrev pub echo_timer : Line → ℕ → Bool → Tree
echo_timer line k true = wanted line k
echo_timer line k false = pulse_over line k

-- the tree of a row
abbrev pub row_tree : Line → ℕ → Tree
row_tree line row = echo_timer line (row / 2) (row % 2 == 0)

abbrev pub row_count : Line → ℕ
row_count line = terminal_count line * 2

-- of the first n rows those of weak terminals are at their gates, where no other gate has one
pub record AreRows (line : Line) (net : NetOf) (n : ℕ) (rows : List (Option ℕ)) : Type 0 where
  pub count : length rows ≡ length net.gates
  pub none : (i row : ℕ) → slice_get rows i ≡ Some None → row < n
      → IsTrue (is_weak line (row / 2)) → formula_of net.gates i ≢ row_tree line row
  pub some : (i row : ℕ) → slice_get rows i ≡ Some (Some row)
      → (row < n) × (formula_of net.gates i ≡ row_tree line row)

-- the gates that stand for this tree, and no others, have this row
pub record IsRowOf (net : NetOf) (rows : List (Option ℕ)) (x : Tree) (row : ℕ) : Type 0 where
  pub stands : (i : ℕ) → slice_get rows i ≡ Some (Some row) → formula_of net.gates i ≡ x
  pub only : (i other : ℕ) → slice_get rows i ≡ Some (Some other) → formula_of net.gates i ≡ x
      → other ≡ row
