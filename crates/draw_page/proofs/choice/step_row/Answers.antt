use Rattle.draw_page.specs.Choices.{step_row_html}
use Rattle.draw_page.proofs.choice.step_row.Goals as goal

pub returns : goal.returns
unfolding step_row_html
returns c =
    c.around.ensures _ (c.joined-2.ensures _ _ (c.joined.ensures _ _
    (c.row_head-name.ensures _ (rw c.as_slice.ensures.value at c.words_in.ensures))
    (c.number_in-from.ensures _ c.time_words.ensures))
    (c.number_in-is.ensures _ c.time_words-2.ensures))
