use Rattle.draw_page.proofs.elements.section_at.Goals as goal

pub returns : goal.returns
returns c =
    λ t inside. c.named.ensures _ _ c.anchor_words.ensures inside
