use Rattle.base_markup.proofs.html_lemmas.Grown.{made_of_words}
use Rattle.base_markup.proofs.html.html.Html.words.Goals as goal

pub invariant_of-result : goal.invariant_of-result
invariant_of-result c =
    record { well_formed = made_of_words _ c.args.words.now c.in_ok-text.ensures }
