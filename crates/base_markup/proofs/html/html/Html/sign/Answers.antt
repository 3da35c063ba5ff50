use Rattle.std.proofs.Common.{◌∙◌}
use Rattle.base_markup.proofs.html_lemmas.Grown.{made_of_sign}
use Rattle.base_markup.proofs.html.html.Html.sign.Goals as goal

pub invariant_of-result : goal.invariant_of-result
invariant_of-result c =
    record {
      well_formed =
          made_of_sign _ c.args.sign (c.in_ok-text.ensures.items ∙ c.reference.ensures);
    }
