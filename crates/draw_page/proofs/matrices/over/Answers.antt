use Rattle.draw_page.specs.Matrices.{over_html}
use Rattle.draw_page.proofs.matrices.over.Goals as goal

pub returns : goal.returns
unfolding over_html
returns c =
    c.element.ensures _ c.words-inside.ensures
