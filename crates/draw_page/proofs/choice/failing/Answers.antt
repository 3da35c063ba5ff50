use Rattle.draw_page.specs.Choices.{failing_html}
use Rattle.draw_page.proofs.choice.failing.Goals as goal

pub returns : goal.returns
unfolding failing_html
returns c =
    c.section.ensures _ (rw c.as_slice.ensures.value at c.some_failing-inside.ensures)
