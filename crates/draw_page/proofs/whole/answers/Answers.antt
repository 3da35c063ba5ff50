use Rattle.draw_page.specs.Pages.{answers_html}
use Rattle.draw_page.proofs.whole.answers.Goals as goal

pub returns : goal.returns
unfolding answers_html
returns c =
    c.joined.ensures _ _ (c.joined-failing.ensures _ _ (c.joined-signed.ensures _ _
    (c.joined-verdicts.ensures _ _ c.header.ensures c.matrix.ensures) c.signing.ensures)
    c.failing.ensures) c.undecided.ensures
