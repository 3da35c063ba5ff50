use Rattle.std.proofs.Common.{sym, ◌∙◌, arith, length}
use Rattle.model_logic.specs.SameTree.{same_tree}
use Rattle.model_plain.specs.Formulas.{own_tree}
use Rattle.net_gates.specs.Formulas.{formula_of}
use Rattle.draw_gates.proofs.roles.lookup.find_gate.Goals as goal

pub returns-then-stands_for-clause-is : goal.returns-then-stands_for-clause-is
returns-then-stands_for-clause-is c =
    sym ((c.the_first_tick_is_the_least.ensures.some
    (λ i. same_tree (formula_of c.args.net.now.gates i) (own_tree c.args.formula.now))
    (length c.args.net.now.gates) c.loop-i.i).1 (
      omega (arith, c.loop-i-test.true, c.len-i-end.ensures.len, c.loop-i.auto.i-end),
      sym c.stands_for.ensures ∙ c.if-stands_for.true,
      c.loop-i.invariant,
    ))
