use Rattle.std.proofs.Common.{ℕ, List, ◌∙◌, ap}
use Rattle.base_markup.specs.{svg.Attributes.said, svg.Content.element_text}
use Rattle.base_markup.proofs.svg_lemmas.Grown.{made_of_element}
use Rattle.base_markup.proofs.svg.markup.Markup.element.Goals as goal

pub invariant_of-result : goal.invariant_of-result
invariant_of-result c =
    let attributes = said c.args.attributes.now in
    record {
      well_formed =
          made_of_element _ c.args.tag attributes c.args.inside.now.text.items
          (c.in_ok-text.ensures
          ∙ ap (λ (l : List ℕ). element_text c.args.tag attributes l) c.deref.ensures.value)
          c.requires c.args.inside.now.well_formed;
    }
