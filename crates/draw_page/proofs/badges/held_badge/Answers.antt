use Rattle.draw_page.specs.Badges.{held_html}
use Rattle.draw_page.proofs.badges.held_badge.Goals as goal

pub returns : goal.returns
unfolding held_html
returns c =
    c.mark.ensures _ (c.text_of.ensures _ c.counted_words-words.ensures)
