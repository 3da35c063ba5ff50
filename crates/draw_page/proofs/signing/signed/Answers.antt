use Rattle.draw_page.specs.Elements.{words_in_html}
use Rattle.draw_page.proofs.signing.signed.Goals as goal

pub returns : goal.returns
unfolding words_in_html
returns c = c.around.ensures _ (c.text_of-words.ensures _ c.signed_words.ensures)
