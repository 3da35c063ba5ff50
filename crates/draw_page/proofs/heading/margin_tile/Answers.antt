use Rattle.draw_page.proofs.heading.margin_tile.Goals as goal

pub returns : goal.returns
returns c =
    λ w words.
    c.tile_of.ensures _ _ (c.text_of-number.ensures _ c.time_words.ensures) (c.text_of.ensures _ words)
