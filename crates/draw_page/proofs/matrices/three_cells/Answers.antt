use Rattle.draw_page.specs.Matrices.{verdict_cells_html}
use Rattle.draw_page.proofs.matrices.three_cells.Goals as goal

pub returns : goal.returns
unfolding verdict_cells_html
returns c =
    let badge = rw c.as_slice.ensures.value at c.badge-badge.ensures in
    let state = c.cell-state.ensures _ badge in
    let named = rw c.as_slice-2.ensures.value at state in
    c.joined.ensures _ _ (c.joined-trip.ensures _ _ named
    (c.number_in.ensures _ c.trip_words-words.ensures))
    (c.number_in-2.ensures _ c.left_words-words.ensures)
