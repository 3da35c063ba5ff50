use Rattle.draw_page.specs.Pages.{head_html}
use Rattle.draw_page.proofs.whole.head.Goals as goal

pub returns : goal.returns
unfolding head_html
returns c =
    c.joined-2.ensures _ _ (c.joined.ensures _ _ (c.joined-metas.ensures _ _
    c.charset.ensures c.viewport.ensures)
    (rw c.as_slice.ensures.value at c.words_in-title.ensures)) c.sheet.ensures
