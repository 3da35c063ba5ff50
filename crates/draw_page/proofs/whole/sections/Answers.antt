use Rattle.draw_page.specs.Pages.{main_html}
use Rattle.draw_page.proofs.whole.sections.Goals as goal

pub returns : goal.returns
unfolding main_html
returns c =
    c.joined.ensures _ _ c.answers.ensures c.grounds.ensures
