use Rattle.draw_page.specs.Times.{time_row_html}
use Rattle.draw_page.proofs.times.time_row.Goals as goal

pub returns : goal.returns
unfolding time_row_html
returns c =
    c.around.ensures _ (c.joined.ensures _ _ c.time_cells-cells.ensures c.bar_cell.ensures)
