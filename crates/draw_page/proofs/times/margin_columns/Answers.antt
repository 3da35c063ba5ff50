use Rattle.draw_page.specs.Times.{margin_columns_html}
use Rattle.draw_page.proofs.times.margin_columns.Goals as goal

pub returns : goal.returns
unfolding margin_columns_html
returns c =
    c.joined.ensures _ _ (c.joined-three.ensures _ _ (c.joined-two.ensures _ _
    c.column.ensures c.column-2.ensures) c.column-3.ensures) c.column-4.ensures
