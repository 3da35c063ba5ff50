use Rattle.draw_page.specs.Matrices.{three_heads_html}
use Rattle.draw_page.proofs.matrices.three_columns.Goals as goal

pub returns : goal.returns
unfolding three_heads_html
returns c =
    c.joined.ensures _ _ (c.joined-two.ensures _ _ c.column.ensures c.column-2.ensures) c.column-3.ensures
