use Rattle.file_study.specs.{times.Rounding.ticks}
use Rattle.file_study.specs.times.RoundedLaws.{at_most-trans}
use Rattle.file_study.proofs.times.time.Interval.in_ticks.Goals as goal

pub returns-clause-covers : goal.returns-clause-covers
returns-clause-covers c a low high = (
  at_most-trans (ticks c.args.tick_us c.ticks_down.result) c.args.self.least a
      c.requires.least.some c.ticks_down.ensures.0 low,
  at_most-trans a c.args.self.greatest (ticks c.args.tick_us c.ticks_up.result)
      c.requires.greatest.some high c.ticks_up.ensures.0,
)
