use Rattle.draw_page.specs.Badges.{fails_html}
use Rattle.draw_page.proofs.badges.fails_badge.Goals as goal

pub returns : goal.returns
unfolding fails_html
returns c =
    c.mark.ensures _ (c.text_of.ensures _ c.counted_words-words.ensures)
