use Rattle.draw_page.specs.Pages.{body_html}
use Rattle.draw_page.proofs.whole.body.Goals as goal

pub returns : goal.returns
unfolding body_html
returns c =
    c.joined.ensures _ _ c.patterns.ensures (c.around-main.ensures _ c.sections.ensures)
