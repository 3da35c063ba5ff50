use Rattle.std.proofs.Common.{◌∷◌, []}
use Rattle.model_line.specs.declared.script.Element.TheVariants as element
use Rattle.model_logic.specs.Elements.{zone1, zone2, reverse}
use Rattle.model_plain.proofs.{Counts.seen_few, ProgramLaws.no_parts, ProgramLaws.stands_over}
use Rattle.model_plain.proofs.parts.distance_parts.Goals as goal

pub returns : goal.returns
returns c =
    let line = c.args.line.now in
    let k = c.args.k in
    c.with_part.ensures line (zone1 line k ∷ zone2 line k ∷ []) (reverse line k) 4 2
    (c.with_part-zone2.ensures line (zone1 line k ∷ []) (zone2 line k) 2 2
    (c.with_part-zone1.ensures line [] (zone1 line k) 0 2 (rw c.new.ensures.items (no_parts line))
    (stands_over (λ parts. zone1 line k) 2 c.element_formula.result c.element_formula.ensures.is
    (seen_few line k element.Z1) [])
    c.element_formula.ensures.named)
    (stands_over (λ parts. zone2 line k) 2 c.element_formula-2.result
    c.element_formula-2.ensures.is (seen_few line k element.Z2) (zone1 line k ∷ []))
    c.element_formula-2.ensures.named)
    (stands_over (λ parts. reverse line k) 2 c.element_formula-3.result
    c.element_formula-3.ensures.is (seen_few line k element.Rv) (zone1 line k ∷ zone2 line k ∷ []))
    c.element_formula-3.ensures.named
