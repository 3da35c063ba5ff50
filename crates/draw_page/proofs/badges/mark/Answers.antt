use Rattle.draw_page.specs.Badges.{mark_html}
use Rattle.draw_page.proofs.badges.mark.Goals as goal

pub returns : goal.returns
unfolding mark_html
returns c =
    λ t words. c.classed_around.ensures _ (c.joined-inside.ensures _ _ c.sign.ensures words)
