use Rattle.draw_page.specs.Choices.{some_least_html}
use Rattle.draw_page.proofs.choice.some_least.Goals as goal

pub returns : goal.returns
unfolding some_least_html
returns c =
    c.classed_around.ensures _ (c.joined-inside.ensures _ _ c.words-words.ensures c.least_names.ensures)
