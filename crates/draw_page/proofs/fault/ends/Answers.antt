use Rattle.draw_page.specs.Faults.{ends_html}
use Rattle.draw_page.proofs.fault.ends.Goals as goal

pub returns : goal.returns
unfolding ends_html
returns c =
    c.table.ensures _ _ c.columns-head.ensures c.end_rows.ensures
