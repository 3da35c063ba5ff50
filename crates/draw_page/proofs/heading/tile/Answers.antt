use Rattle.draw_page.proofs.heading.tile.Goals as goal

pub returns : goal.returns
returns c =
    rw c.tile_class.ensures
    at (c.tile_of.ensures _ _ (c.text_of-count.ensures _ c.number_words.ensures) c.words-words.ensures)
