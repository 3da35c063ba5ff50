use Rattle.draw_page.specs.Choices.{name_html}
use Rattle.draw_page.proofs.choice.least_name.Goals as goal

pub returns : goal.returns
unfolding name_html
returns c =
    c.joined.ensures _ _ c.words.ensures c.words_in.ensures
