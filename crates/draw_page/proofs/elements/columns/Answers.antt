use Rattle.draw_page.specs.Elements.{columns_html}
use Rattle.draw_page.proofs.elements.columns.Goals as goal

pub returns : goal.returns
unfolding columns_html
returns c =
    c.around.ensures _ (c.around-row.ensures _ c.heads.ensures)
