use Rattle.std.proofs.lemmas.List.{get_or_default}
use Rattle.net_compile.proofs.PartGates.{part_stands}
use Rattle.net_compile.proofs.formula_gates.part_gate.Goals as goal

pub returns-then-part-parts-clause-made : goal.returns-then-part-parts-clause-made
returns-then-part-parts-clause-made c =
    part_stands c.args.net.now c.args.parts.now c.args.part _
    c.requires.parts c.if-part-parts.true
    (get_or_default c.args.parts.now c.args.part (record { 0 = 0 }) _ c.if-part-parts.true)
