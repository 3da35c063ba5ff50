use Rattle.draw_page.specs.Sweeps.{strip_html}
use Rattle.draw_page.proofs.strip.strip.Goals as goal

pub returns : goal.returns
unfolding strip_html
returns c =
    c.hidden.ensures _ (c.joined.ensures _ _
    (rw c.as_slice.ensures.value at c.words_in-name.ensures)
    (rw c.as_slice-2.ensures.value at c.spots-spots.ensures))
