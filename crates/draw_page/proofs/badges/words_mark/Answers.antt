use Rattle.draw_page.proofs.badges.words_mark.Goals as goal

pub returns : goal.returns
returns c =
    c.mark.ensures _ c.words.ensures
