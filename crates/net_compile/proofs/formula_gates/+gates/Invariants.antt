use Rattle.std.proofs.Common.{◌+◌}
use Rattle.model_plain.specs.Formulas.{own_tree}
use Rattle.net_compile.proofs.Nodes.{nodes}
use Rattle.net_compile.proofs.formula_gates.+gates.Given as goal

abbrev pub decreases-compile_formula : goal.decreases-compile_formula
decreases-compile_formula l = nodes (own_tree l.formula.now)

abbrev pub decreases-both : goal.decreases-both
decreases-both l = 1 + nodes (own_tree l.x.now) + nodes (own_tree l.y.now)
