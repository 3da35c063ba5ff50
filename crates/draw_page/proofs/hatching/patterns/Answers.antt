use Rattle.draw_page.specs.Figures.{patterns_html}
use Rattle.draw_page.proofs.hatching.patterns.Goals as goal

pub returns : goal.returns
unfolding patterns_html
returns c =
    c.hidden.ensures _ (rw (
      c.words.ensures.key,
      c.words.ensures.value,
      c.words-2.ensures.key,
      c.words-2.ensures.value,
      c.words-3.ensures.key,
      c.words-3.ensures.value,
      c.in_ok-hatchings.ensures,
    ) at c.drawing-drawn.ensures)
