use Rattle.cert_settle.proofs.WrittenLaws.{text_is_settle_text}
use Rattle.cert_settle.proofs.laws.printed_results_are_a_settle_text.Goals as goal

pub returns : goal.returns
returns c line scripts parts long fits each =
    text_is_settle_text c.laws_below.ensures line scripts parts long fits each
