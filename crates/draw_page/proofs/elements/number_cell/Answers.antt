use Rattle.draw_page.specs.Elements.{number_cell_html}
use Rattle.draw_page.proofs.elements.number_cell.Goals as goal

pub returns : goal.returns
unfolding number_cell_html
returns c =
    c.cell.ensures _ c.shown.ensures
