use Rattle.draw_page.specs.Opens.{open_html}
use Rattle.draw_page.proofs.opens.undecided.Goals as goal

pub returns : goal.returns
unfolding open_html
returns c =
    c.section.ensures _ (rw c.as_slice.ensures.value at c.some_open-inside.ensures)
