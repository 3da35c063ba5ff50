use Rattle.std.proofs.Common.{◌∷◌, ◌++◌, []}
use Rattle.model_line.specs.declared.script.Element.TheVariants as element
use Rattle.model_logic.specs.Elements.{undervoltage, current}
use Rattle.model_logic.specs.Permissive.{reversal_guard}
use Rattle.model_plain.specs.Parts.{distance_trees}
use Rattle.model_plain.proofs.{Counts.seen_few, Counts.guard_few, ProgramLaws.stands_over}
use Rattle.model_plain.proofs.parts.local_parts.Goals as goal

pub returns : goal.returns
returns c =
    let line = c.args.line.now in
    let k = c.args.k in
    let three = distance_trees line k in
    let four = three ++ undervoltage line k ∷ [] in
    let five = four ++ current line k ∷ [] in
    c.with_part.ensures line five (reversal_guard line k) 10 3
    (c.with_part-with_current.ensures line four (current line k) 8 2
    (c.with_part-with_voltage.ensures line three (undervoltage line k) 6 2
    c.distance_parts-distance.ensures
    (stands_over (λ parts. undervoltage line k) 2 c.element_formula.result
    c.element_formula.ensures.is (seen_few line k element.Uv) three)
    c.element_formula.ensures.named)
    (stands_over (λ parts. current line k) 2 c.element_formula-2.result
    c.element_formula-2.ensures.is (seen_few line k element.Cur) four)
    c.element_formula-2.ensures.named)
    (stands_over (λ parts. reversal_guard line k) 3 c.guard_formula.result
    c.guard_formula.ensures.is (guard_few line k) five)
    c.guard_formula.ensures.named
