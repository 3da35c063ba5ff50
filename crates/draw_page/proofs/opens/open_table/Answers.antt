use Rattle.draw_page.specs.Opens.{open_table_html}
use Rattle.draw_page.proofs.opens.open_table.Goals as goal

pub returns : goal.returns
unfolding open_table_html
returns c =
    c.table.ensures _ _ c.columns-head.ensures c.open_rows.ensures
