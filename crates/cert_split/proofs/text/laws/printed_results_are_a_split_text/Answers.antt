use Rattle.cert_split.proofs.text_lemmas.WrittenLaws.{text_is_split_text}
use Rattle.cert_split.proofs.text.laws.printed_results_are_a_split_text.Goals as goal

pub returns : goal.returns
returns c line scripts parts long fits each =
    text_is_split_text c.laws_below.ensures line scripts parts long fits each
