use Rattle.draw_page.specs.Badges.{open_html}
use Rattle.draw_page.proofs.badges.open_badge.Goals as goal

pub returns : goal.returns
unfolding open_html
returns c =
    c.mark.ensures _ (c.text_of.ensures _ c.counted_words-words.ensures)
