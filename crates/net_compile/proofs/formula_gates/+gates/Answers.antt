use Rattle.std.proofs.Common.{subst}
use Rattle.model_plain.specs.Formulas.{tree_of}
use Rattle.net_gates.specs.Formulas.{Stands}
use Rattle.net_compile.proofs.PartGates.{trees_kept}
use Rattle.net_compile.proofs.formula_gates.+gates.Goals as goal

pub both-returns-clause-second : goal.both-returns-clause-second
both-returns-clause-second t c =
    subst
    (λ ts. Stands c.compile_formula-2.new.net c.in_ok-second.second.0 (tree_of ts c.args.y.now))
    (trees_kept c.args.net.now c.compile_formula.new.net c.args.parts.now c.requires.parts
    c.in_ok-first.ensures.adds.grows)
    c.in_ok-second.ensures.made
