use Rattle.draw_page.specs.Opens.{open_row_html}
use Rattle.draw_page.proofs.opens.open_row.Goals as goal

pub returns : goal.returns
unfolding open_row_html
returns c =
    c.around.ensures _ (c.joined.ensures _ _
    (c.row_head-script.ensures _ (rw c.as_slice.ensures.value at c.link.ensures))
    (rw c.as_slice-2.ensures.value at c.number_cell-terminal.ensures))
