use Rattle.draw_page.specs.Times.{lost_html}
use Rattle.draw_page.proofs.times.bounded.Goals as goal

pub returns : goal.returns
unfolding lost_html
returns c =
    c.joined.ensures _ _ (c.text_of-spare.ensures _ c.time_words.ensures) c.said_in.ensures
