use Rattle.draw_page.specs.Faults.{end_row_html}
use Rattle.draw_page.proofs.fault.end_row.Goals as goal

pub returns : goal.returns
unfolding end_row_html
returns c =
    c.around.ensures _ (c.joined.ensures _ _ c.answer_cells-answer.ensures c.limit_cells.ensures)
