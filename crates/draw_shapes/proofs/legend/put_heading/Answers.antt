use Rattle.draw_shapes.proofs.legend.put_heading.Goals as goal

pub returns : goal.returns
returns c = c.put_words.ensures
