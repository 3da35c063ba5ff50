use Rattle.base_markup.proofs.svg_lemmas.Plain.{escaped_is_plain}
use Rattle.base_markup.proofs.svg.laws.escaped_words_are_plain.Goals as goal

pub returns : goal.returns
returns c = escaped_is_plain
