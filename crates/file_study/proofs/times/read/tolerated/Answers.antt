use Rattle.file_study.proofs.times_lemmas.Ordered.{ends_in_order}
use Rattle.file_study.proofs.times.read.tolerated.Goals as goal

pub returns-clause-readable : goal.returns-clause-readable
returns-clause-readable c = (
  c.least.ensures.within,
  c.greatest.ensures.within,
  rw (c.least.ensures.is, c.greatest.ensures.is) (ends_in_order c.args.value c.args.share
      c.args.margin),
)
