use Rattle.draw_page.specs.Matrices.{matrix_html}
use Rattle.draw_page.proofs.matrices.matrix.Goals as goal

pub returns : goal.returns
unfolding matrix_html
returns c =
    c.section.ensures _ (c.joined.ensures _ _ c.meaning.ensures (c.table-table.ensures _ _
    (rw c.as_slice.ensures.value at c.matrix_head-head.ensures)
    (rw c.as_slice-2.ensures.value at c.fault_rows-rows.ensures)))
