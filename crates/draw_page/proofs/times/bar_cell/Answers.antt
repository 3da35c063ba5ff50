use Rattle.draw_page.specs.Times.{bar_cell_html}
use Rattle.draw_page.proofs.times.bar_cell.Goals as goal

pub returns : goal.returns
unfolding bar_cell_html
returns c =
    c.bare_cell.ensures _ (rw c.in_ok-of.ensures at c.drawing.ensures)
