use Rattle.draw_shapes.proofs.mark.up_by.Goals as goal

pub shown_at-requires-clause-ruler : goal.shown_at-requires-clause-ruler
shown_at-requires-clause-ruler c = rw c.in-Some.is at c.requires.ruler

pub returns-in-Some-clause-is : goal.returns-in-Some-clause-is
returns-in-Some-clause-is c = rw c.in-Some.is c.shown_at.ensures.is
