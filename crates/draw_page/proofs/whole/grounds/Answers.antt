use Rattle.draw_page.specs.Pages.{grounds_html}
use Rattle.draw_page.proofs.whole.grounds.Goals as goal

pub returns : goal.returns
unfolding grounds_html
returns c =
    c.joined.ensures _ _ (c.joined-faults.ensures _ _ c.times.ensures c.faults.ensures)
    c.files.ensures
