use Rattle.draw_page.specs.Times.{times_html}
use Rattle.draw_page.proofs.times.times.Goals as goal

pub returns : goal.returns
unfolding times_html
returns c =
    c.section.ensures _ (rw c.as_slice.ensures.value at c.some_times-inside.ensures)
