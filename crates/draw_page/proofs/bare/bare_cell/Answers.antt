use Rattle.draw_page.specs.Bare.{bare_cell_html}
use Rattle.draw_page.proofs.bare.bare_cell.Goals as goal

pub returns : goal.returns
unfolding bare_cell_html
returns c =
    λ t inside. c.classed_around.ensures _ inside
