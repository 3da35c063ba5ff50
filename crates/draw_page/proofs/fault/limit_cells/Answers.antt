use Rattle.draw_page.specs.Faults.{limit_cells_html}
use Rattle.draw_page.proofs.fault.limit_cells.Goals as goal

pub returns : goal.returns
unfolding limit_cells_html
returns c =
    c.joined.ensures _ _ (c.joined-margin.ensures _ _
    (c.number_in-deadline.ensures _ c.deadline_words-words.ensures)
    (c.number_in.ensures _ c.left_words-words.ensures))
    (c.cell.ensures _ (rw c.by_words.ensures at c.words-by.ensures))
