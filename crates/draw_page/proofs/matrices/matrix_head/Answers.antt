use Rattle.draw_page.specs.Matrices.{matrix_head_html}
use Rattle.draw_page.proofs.matrices.matrix_head.Goals as goal

pub returns : goal.returns
unfolding matrix_head_html
returns c =
    c.around.ensures _ (c.joined.ensures _ _
    (c.around-over.ensures _ (c.joined-heads.ensures _ _
    (c.joined-corners.ensures _ _ c.corner.ensures c.corner-2.ensures) c.terminal_heads.ensures))
    (c.around-under.ensures _ c.three_heads.ensures))
