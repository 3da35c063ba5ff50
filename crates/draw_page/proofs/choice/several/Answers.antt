use Rattle.draw_page.specs.Choices.{several_html}
use Rattle.draw_page.specs.Elements.{words_in_html}
use Rattle.draw_page.proofs.choice.several.Goals as goal

pub returns : goal.returns
unfolding several_html words_in_html
returns c =
    let words = rw (c.as_bytes.ensures.value, c.format.ensures.text) at c.words_of-words.ensures in
    c.around.ensures _ (c.text_of.ensures _ words)
