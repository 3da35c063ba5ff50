use Rattle.draw_page.specs.Matrices.{corner_html}
use Rattle.draw_page.proofs.matrices.corner.Goals as goal

pub returns : goal.returns
unfolding corner_html
returns c =
    c.element.ensures _ c.words-inside.ensures
