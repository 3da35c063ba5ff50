use Rattle.draw_page.proofs.elements.row_head.Goals as goal

pub returns : goal.returns
returns c =
    λ t inside. c.head_cell.ensures _ inside
