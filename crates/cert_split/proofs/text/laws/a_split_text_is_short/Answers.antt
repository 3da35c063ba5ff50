use Rattle.cert_split.proofs.text_lemmas.SizeLaws.{text_short}
use Rattle.cert_split.proofs.text.laws.a_split_text_is_short.Goals as goal

pub returns : goal.returns
returns c line scripts parts few fits each =
    text_short c.laws_below.ensures line scripts parts few fits each
