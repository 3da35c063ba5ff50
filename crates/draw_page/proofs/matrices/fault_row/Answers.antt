use Rattle.draw_page.specs.Matrices.{fault_row_html}
use Rattle.draw_page.proofs.matrices.fault_row.Goals as goal

pub returns : goal.returns
unfolding fault_row_html
returns c =
    c.around.ensures _ (c.joined.ensures _ _ (c.joined-named.ensures _ _
    (c.row_head-name.ensures _ (rw c.as_slice.ensures.value at c.link.ensures))
    (c.cell.ensures _ (rw c.kind_word.ensures at c.words-kind.ensures)))
    (rw c.as_slice-2.ensures.value at c.verdict_cells-verdicts.ensures))
