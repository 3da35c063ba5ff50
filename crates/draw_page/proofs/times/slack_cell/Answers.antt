use Rattle.draw_page.specs.Times.{slack_cell_html}
use Rattle.draw_page.proofs.times.slack_cell.Goals as goal

pub returns : goal.returns
unfolding slack_cell_html
returns c =
    c.cell.ensures _ c.slack.ensures
