use Rattle.draw_page.specs.Sweeps.{state_html}
use Rattle.draw_page.proofs.scripts.state.Goals as goal

pub returns : goal.returns
unfolding state_html
returns c =
    rw c.as_slice-2.ensures.value at (c.cell.ensures _
    (rw c.as_slice.ensures.value at c.standing_in-inside.ensures))
