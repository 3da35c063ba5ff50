use Rattle.draw_page.specs.Sweeps.{case_row_html}
use Rattle.draw_page.proofs.scripts.case_row.Goals as goal

pub returns : goal.returns
unfolding case_row_html
returns c =
    c.around.ensures _ (c.joined.ensures _ _ c.case_cells-cells.ensures c.states.ensures)
