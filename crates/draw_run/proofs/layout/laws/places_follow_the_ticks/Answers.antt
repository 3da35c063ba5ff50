use Rattle.draw_run.proofs.layout_lemmas.Places.{places_apart, places_grow}
use Rattle.draw_run.proofs.layout.laws.places_follow_the_ticks.Goals as goal

pub returns-clause-order : goal.returns-clause-order
returns-clause-order c = places_grow

pub returns-clause-apart : goal.returns-clause-apart
returns-clause-apart c = places_apart
