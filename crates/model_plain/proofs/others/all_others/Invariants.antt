use Rattle.std.proofs.Common.{◌≡◌, ◌≢◌, ℕ, ◌<◌}
use Rattle.std.specs.Prelude.{option_map, Ok, List}
use Rattle.model_line.specs.Parameters.{terminal_count}
use Rattle.model_plain.specs.{declared.formula.Formula.Formula, Formulas.tree_of, Parts.IsClosed}
use Rattle.model_logic.specs.Received.{join_of, over_others}
use Rattle.model_logic.specs.Tree.{Tree}
use Rattle.model_plain.proofs.others.all_others.Given as goal

abbrev pub invariant-loop-j : goal.invariant-loop-j
invariant-loop-j g l =
    (parts : List Tree) (tree : ℕ → Tree)
    → ((j : ℕ) (f : Formula) → j < terminal_count l.line → j ≢ l.k
    → goal.P-post g l.part j (Ok f) → IsClosed (tree j) f)
    → option_map (tree_of parts) l.all ≡ over_others (join_of l.join) tree l.k l.j
