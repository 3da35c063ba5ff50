use Rattle.draw_page.specs.Choices.{told_row_html}
use Rattle.draw_page.proofs.choice.told_row.Goals as goal

pub returns : goal.returns
unfolding told_row_html
returns c =
    c.around.ensures _ (c.joined-cells.ensures _ _ (c.joined.ensures _ _
    (c.row_head-name.ensures _ (rw c.as_slice.ensures.value at c.words_in.ensures))
    (c.number_in-here.ensures _ c.time_words.ensures))
    (c.number_in.ensures _ c.interval_words-words.ensures))
