use Rattle.draw_page.specs.Times.{times_table_html}
use Rattle.draw_page.proofs.times.times_table.Goals as goal

pub returns : goal.returns
unfolding times_table_html
returns c =
    rw c.reach-reach.ensures.is at (c.joined.ensures _ _ c.meaning.ensures
    (c.table.ensures _ _ c.times_head-head.ensures c.time_rows-rows.ensures))
