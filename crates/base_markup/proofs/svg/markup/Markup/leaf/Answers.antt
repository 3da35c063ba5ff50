use Rattle.base_markup.specs.svg.Attributes.{said}
use Rattle.base_markup.proofs.svg_lemmas.Grown.{made_of_leaf}
use Rattle.base_markup.proofs.svg.markup.Markup.leaf.Goals as goal

pub invariant_of-result : goal.invariant_of-result
invariant_of-result c =
    record {
      well_formed =
          made_of_leaf _ c.args.tag (said c.args.attributes.now) c.in_ok-text.ensures c.requires;
    }
