use Rattle.draw_page.specs.Choices.{steps_html}
use Rattle.draw_page.proofs.choice.step_table.Goals as goal

pub returns : goal.returns
unfolding steps_html
returns c =
    c.table.ensures _ _ c.columns-head.ensures c.step_rows.ensures
