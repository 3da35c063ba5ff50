use Rattle.draw_page.proofs.fault.sweep.Goals as goal

pub returns : goal.returns
returns c =
    c.joined.ensures _ _ c.strips-strips.ensures c.scripts.ensures
