use Rattle.draw_page.specs.Elements.{column_html}
use Rattle.draw_page.proofs.elements.column.Goals as goal

pub returns : goal.returns
unfolding column_html
returns c =
    c.head_cell.ensures _ c.words.ensures
