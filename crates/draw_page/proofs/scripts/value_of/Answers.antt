use Rattle.draw_page.specs.Sweeps.{value_html}
use Rattle.draw_page.specs.Elements.{words_in_html}
use Rattle.draw_page.proofs.scripts.value_of.Goals as goal

pub returns : goal.returns
unfolding value_html words_in_html
returns c =
    c.around.ensures _ (c.text_of-words.ensures _ c.time_words.ensures)
