use Rattle.std.proofs.Common.{◌≡◌, [], ap, ◌∙◌, subst}
use Rattle.model_plain.specs.Formulas.{tree_of, trees_after, part_trees}
use Rattle.net_gates.specs.Formulas.{Stands}
use Rattle.net_gates.specs.Formulas.{trees_of}
use Rattle.net_compile.proofs.{Ends.stands_kept, PartGates.trees_kept}
use Rattle.net_compile.proofs.program_gates.compile_program.Goals as goal

pub returns-clause-made : goal.returns-clause-made
returns-clause-made c =
    let p = c.args.program.now in
    let ids = c.in_ok-parts.parts.items in
    let before = c.part_gates.new.net in
    let mid = c.compile_formula.new.net in
    let after = c.compile_formula-2.new.net in
    let parts : trees_of before ids ≡ part_trees p =
    c.in_ok-parts.ensures.made.trees ∙ ap (trees_after []) c.deref.ensures.value in
    let at_key : trees_of before c.deref-2.result.now ≡ part_trees p =
    ap (trees_of before) c.deref-2.ensures.value ∙ parts in
    let at_trip : trees_of mid c.deref-3.result.now ≡ part_trees p =
    ap (trees_of mid) c.deref-3.ensures.value
    ∙ trees_kept before mid ids c.in_ok-parts.ensures.made.within c.in_ok-key.ensures.adds.grows
    ∙ parts in
    record {
      key_gate =
          stands_kept mid after c.in_ok-key.key.0 (tree_of (part_trees p) p.key)
          c.in_ok-trip.ensures.adds.grows
          (subst (λ ts. Stands mid c.in_ok-key.key.0 (tree_of ts p.key)) at_key
          c.in_ok-key.ensures.made);
      trip_gate =
          subst (λ ts. Stands after c.in_ok-trip.trip.0 (tree_of ts p.trip)) at_trip
          c.in_ok-trip.ensures.made;
    }
