use Rattle.draw_page.specs.Headings.{tile_html}
use Rattle.draw_page.specs.Elements.{words_in_html}
use Rattle.draw_page.proofs.heading.tile_of.Goals as goal

pub returns : goal.returns
unfolding tile_html words_in_html
returns c =
    λ n w number words.
    c.classed_around.ensures _ (c.joined-inside.ensures _ _ (c.around-number.ensures _ number)
    (c.around.ensures _ words))
