use Rattle.draw_page.proofs.drawings.inside.Goals as goal

pub returns : goal.returns
returns c =
    c.behind.ensures _ _ (c.behind-title.ensures _ _ c.line_end.ensures
    (rw c.as_slice.ensures.value at c.title.ensures))
    (rw c.as_slice-2.ensures.value at c.shapes.ensures)
