use Rattle.draw_page.specs.Elements.{head_cell_html}
use Rattle.draw_page.proofs.elements.head_cell.Goals as goal

pub returns : goal.returns
unfolding head_cell_html
returns c =
    λ t inside. c.element.ensures _ inside
