use Rattle.draw_page.specs.Headings.{counts_html}
use Rattle.draw_page.proofs.heading.counts.Goals as goal

pub returns : goal.returns
unfolding counts_html
returns c =
    c.joined.ensures _ _ (c.joined-every.ensures _ _
    (c.joined-failing.ensures _ _ c.held.ensures c.failing.ensures)
    c.every.ensures) c.undecided.ensures
