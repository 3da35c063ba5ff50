use Rattle.draw_page.specs.Choices.{told_html}
use Rattle.draw_page.proofs.choice.told.Goals as goal

pub returns : goal.returns
unfolding told_html
returns c =
    c.table.ensures _ _ c.columns-head.ensures c.told_rows.ensures
