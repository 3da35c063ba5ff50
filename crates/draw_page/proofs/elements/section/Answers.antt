use Rattle.draw_page.specs.Elements.{section_html}
use Rattle.draw_page.proofs.elements.section.Goals as goal

pub returns : goal.returns
unfolding section_html
returns c =
    λ t inside. c.section_at.ensures _ (c.joined.ensures _ _ c.words_in-heading.ensures inside)
