use Rattle.base_markup.specs.svg.Attributes as svg
use Rattle.base_markup.proofs.html_lemmas.Grown.{made_of_drawing}
use Rattle.base_markup.proofs.html.html.Html.drawing.Goals as goal

pub invariant_of-result : goal.invariant_of-result
invariant_of-result c =
    record {
      well_formed =
          made_of_drawing _ (svg.said c.args.attributes.now) c.args.inside.now.text.items
          c.in_ok-drawn.ensures c.requires c.args.inside.now.well_formed;
    }
