use Rattle.draw_page.specs.Faults.{answer_cells_html}
use Rattle.draw_page.proofs.fault.answer_cells.Goals as goal

pub returns : goal.returns
unfolding answer_cells_html
returns c =
    c.joined.ensures _ _ (c.joined-state.ensures _ _
    (c.row_head-name.ensures _ (rw c.as_slice.ensures.value at c.words.ensures))
    (c.bare_cell.ensures _ (rw c.as_slice-2.ensures.value at c.badge-badge.ensures)))
    (c.number_in.ensures _ c.trip_words-trip.ensures)
