use Rattle.base_markup.specs.html.Attributes.{said}
use Rattle.base_markup.proofs.html_lemmas.Grown.{made_of_void}
use Rattle.base_markup.proofs.html.html.Html.void.Goals as goal

pub invariant_of-result : goal.invariant_of-result
invariant_of-result c =
    record {
      well_formed =
          made_of_void _ c.args.tag (said c.args.attributes.now) c.in_ok-text.ensures c.requires;
    }
