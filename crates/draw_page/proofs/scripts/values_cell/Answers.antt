use Rattle.draw_page.specs.Sweeps.{values_cell_html}
use Rattle.draw_page.proofs.scripts.values_cell.Goals as goal

pub returns : goal.returns
unfolding values_cell_html
returns c =
    c.cell.ensures _ c.values-inside.ensures
