use Rattle.std.proofs.Common.{◌≡◌, ◌<◌, ℕ, false}
use Rattle.model_logic.specs.SameTree.{same_tree}
use Rattle.model_plain.specs.Formulas.{own_tree}
use Rattle.net_gates.specs.Formulas.{formula_of}
use Rattle.draw_gates.proofs.roles.lookup.find_gate.Given as goal

abbrev pub invariant-loop-i : goal.invariant-loop-i
invariant-loop-i l =
    (r : ℕ) → r < l.i → same_tree (formula_of l.net.gates r) (own_tree l.formula) ≡ false
