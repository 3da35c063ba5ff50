use Rattle.std.proofs.Common.{◌+◌, drop, subst}
use Rattle.std.proofs.lemmas.List.{drop_all}
use Rattle.model_plain.specs.Formulas.{tree_of}
use Rattle.net_gates.specs.Formulas.{Stands}
use Rattle.net_gates.specs.Formulas.{trees_of}
use Rattle.net_compile.proofs.PartGates.{HaveParts, at_part, extends_so_far, parts_more, all_parts}
use Rattle.net_compile.proofs.program_gates.part_gates.Goals as goal

pub returns-in_err-id-clause-adds : goal.returns-in_err-id-clause-adds
returns-in_err-id-clause-adds c =
    extends_so_far c.args.net.now c.loop-part.net c.compile_formula.new.net c.loop-part.ids.items
    c.args.parts.now (drop (c.loop-part.part-index + 1) c.args.parts.now) c.part-item.result
    (at_part c.args.net.now c.loop-part.net c.loop-part.ids.items c.args.parts.now
    c.loop-part.part-index c.part-item.result c.loop-part-test.true c.part-item.is
    c.loop-part.invariant)
    c.in_err-id.ensures.adds

pub returns-in_err-push-clause-adds : goal.returns-in_err-push-clause-adds
returns-in_err-push-clause-adds c =
    extends_so_far c.args.net.now c.loop-part.net c.compile_formula.new.net c.loop-part.ids.items
    c.args.parts.now (drop (c.loop-part.part-index + 1) c.args.parts.now) c.part-item.result
    (at_part c.args.net.now c.loop-part.net c.loop-part.ids.items c.args.parts.now
    c.loop-part.part-index c.part-item.result c.loop-part-test.true c.part-item.is
    c.loop-part.invariant)
    c.in_ok-id.ensures.adds

pub loop-part-preserved : goal.loop-part-preserved
loop-part-preserved c =
    rw c.in_ok-push.ensures.items (parts_more c.args.net.now c.loop-part.net
    c.compile_formula.new.net c.loop-part.ids.items c.args.parts.now
    (drop (c.loop-part.part-index + 1) c.args.parts.now) c.part-item.result
    (at_part c.args.net.now c.loop-part.net c.loop-part.ids.items c.args.parts.now
    c.loop-part.part-index c.part-item.result c.loop-part-test.true c.part-item.is
    c.loop-part.invariant)
    c.in_ok-id.ensures.adds c.in_ok-id.id
    (subst
    (λ ids. Stands c.compile_formula.new.net c.in_ok-id.id.0
    (tree_of (trees_of c.loop-part.net ids) c.part-item.result))
    c.deref.ensures.value c.in_ok-id.ensures.made))

pub returns-clause-adds : goal.returns-clause-adds
returns-clause-adds c =
    (all_parts c.args.net.now c.loop-part.net c.loop-part.ids.items c.args.parts.now
    (subst (HaveParts c.args.net.now c.loop-part.net c.loop-part.ids.items c.args.parts.now)
    (drop_all c.loop-part.part-index c.args.parts.now c.loop-part-test.false)
    c.loop-part.invariant)).1
