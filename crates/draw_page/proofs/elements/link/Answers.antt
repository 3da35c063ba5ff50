use Rattle.draw_page.specs.Elements.{link_html}
use Rattle.draw_page.proofs.elements.link.Goals as goal

pub returns : goal.returns
unfolding link_html
returns c =
    c.named.ensures _ _ c.target_words.ensures c.words-inside.ensures
