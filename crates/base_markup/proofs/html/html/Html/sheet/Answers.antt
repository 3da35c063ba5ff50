use Rattle.base_markup.proofs.html_lemmas.Grown.{made_of_sheet}
use Rattle.base_markup.proofs.html.html.Html.sheet.Goals as goal

pub invariant_of-result : goal.invariant_of-result
invariant_of-result c =
    record { well_formed = made_of_sheet _ c.args.sheet.now c.in_ok-text.ensures }
