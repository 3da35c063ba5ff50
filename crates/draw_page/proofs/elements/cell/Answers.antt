use Rattle.draw_page.specs.Elements.{cell_html}
use Rattle.draw_page.proofs.elements.cell.Goals as goal

pub returns : goal.returns
unfolding cell_html
returns c =
    λ t inside. c.classed_around.ensures _ (c.joined.ensures _ _ c.said_in-label.ensures inside)
