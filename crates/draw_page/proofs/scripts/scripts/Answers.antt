use Rattle.draw_page.specs.Sweeps.{scripts_html}
use Rattle.draw_page.proofs.scripts.scripts.Goals as goal

pub returns : goal.returns
unfolding scripts_html
returns c =
    c.around.ensures _ (c.joined.ensures _ _ c.words_in-summary.ensures
    (c.table-table.ensures _ _ c.scripts_head-head.ensures c.case_rows-rows.ensures))
