use Rattle.draw_page.specs.Signing.{lines_html}
use Rattle.draw_page.proofs.signing.lines.Goals as goal

pub returns : goal.returns
unfolding lines_html
returns c =
    let two = c.joined-two.ensures _ _ c.line.ensures c.line-2.ensures in
    c.classed_around.ensures _ (c.joined-three.ensures _ _ two c.line-3.ensures)
