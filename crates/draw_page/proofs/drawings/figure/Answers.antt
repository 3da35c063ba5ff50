use Rattle.draw_page.specs.Figures.{figure_html}
use Rattle.draw_page.proofs.drawings.figure.Goals as goal

pub returns : goal.returns
unfolding figure_html
returns c =
    c.classed_around.ensures _ c.drawing.ensures
