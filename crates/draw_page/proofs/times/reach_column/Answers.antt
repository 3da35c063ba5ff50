use Rattle.draw_page.specs.Elements.{column_html}
use Rattle.draw_page.proofs.times.reach_column.Goals as goal

pub returns : goal.returns
unfolding column_html
returns c =
    c.head_cell.ensures _ (c.text_of.ensures _ c.timed_words-words.ensures)
