use Rattle.draw_page.specs.Times.{times_head_html}
use Rattle.draw_page.proofs.times.times_head.Goals as goal

pub returns : goal.returns
unfolding times_head_html
returns c =
    c.around-2.ensures _ (c.around.ensures _ (c.joined-cells.ensures _ _
    c.margin_columns.ensures c.reach_column.ensures))
