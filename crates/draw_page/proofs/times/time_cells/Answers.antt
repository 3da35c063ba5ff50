use Rattle.draw_page.specs.Times.{time_cells_html}
use Rattle.draw_page.proofs.times.time_cells.Goals as goal

pub returns : goal.returns
unfolding time_cells_html
returns c =
    c.joined-2.ensures _ _ (c.joined.ensures _ _ (c.joined-declared.ensures _ _
    (c.row_head-name.ensures _ (rw c.as_slice.ensures.value at c.words_in.ensures))
    (c.number_in.ensures _ c.interval_words-words.ensures))
    c.slack_cell-below.ensures) c.slack_cell-above.ensures
