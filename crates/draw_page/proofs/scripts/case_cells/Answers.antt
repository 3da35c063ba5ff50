use Rattle.draw_page.specs.Sweeps.{case_cells_html}
use Rattle.draw_page.proofs.scripts.case_cells.Goals as goal

pub returns : goal.returns
unfolding case_cells_html
returns c =
    c.joined.ensures _ _ (c.joined-values.ensures _ _
    (c.row_head-name.ensures _ (rw c.as_slice.ensures.value at c.words.ensures))
    (rw c.as_slice-2.ensures.value at c.values_cell.ensures))
    (c.number_in.ensures _ c.deadline_words-words.ensures)
