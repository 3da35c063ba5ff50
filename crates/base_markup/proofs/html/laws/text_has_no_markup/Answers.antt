use Rattle.base_markup.proofs.html_lemmas.Unmarked.{words_are_unmarked}
use Rattle.base_markup.proofs.html.laws.text_has_no_markup.Goals as goal

pub returns : goal.returns
returns c = words_are_unmarked c.escaped_words_are_plain.ensures
