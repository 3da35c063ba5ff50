use Rattle.draw_page.specs.Elements.{said_in_html}
use Rattle.draw_page.proofs.heading.subject.Goals as goal

pub returns : goal.returns
unfolding said_in_html
returns c =
    c.classed_around.ensures _ (c.text_of-words.ensures _ c.subject_words.ensures)
