use Rattle.call_study.proofs.top.said_over.Goals as goal

pub play-requires : goal.play-requires
play-requires c = rw (c.as_slice-further.ensures.value) (rw c.in-Play.is at c.requires)

pub explain-requires : goal.explain-requires
explain-requires c = rw (c.as_slice-further.ensures.value) (rw c.in-Explain.is at c.requires)

pub returns-in-Play : goal.returns-in-Play
returns-in-Play c = rw c.in-Play.is (rw c.as_slice-further.ensures.value at c.play.ensures)

pub returns-in-Recheck : goal.returns-in-Recheck
returns-in-Recheck c = rw c.in-Recheck.is (rw c.as_slice-further.ensures.value at c.recheck.ensures)

pub returns-in-Explain : goal.returns-in-Explain
returns-in-Explain c = rw c.in-Explain.is (rw c.as_slice-further.ensures.value at c.explain.ensures)
