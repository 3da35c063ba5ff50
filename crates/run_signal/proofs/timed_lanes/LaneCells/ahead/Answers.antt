use Rattle.std.proofs.Common.{◌≤◌, ◌∙◌, ap, subst}
use Rattle.run_signal.specs.Bits.{bit_on}
use Rattle.run_signal.specs.Vectors.{CellVectors, steady_in}
use Rattle.run_signal.proofs.timed_lanes.LaneCells.ahead.Goals as goal

pub returns-clause-under : goal.returns-clause-under
returns-clause-under c = λ lane inside.
    subst (λ (v : CellVectors). c.least_steady.result ≤ steady_in v lane (bit_on c.args.input lane))
    c.self.view_is (c.least_steady.ensures.under lane inside)

pub returns-clause-met : goal.returns-clause-met
returns-clause-met c = λ less.
    let (lane, inside, is) = c.least_steady.ensures.met less in (
      lane,
      inside,
      is ∙ ap (λ (v : CellVectors). steady_in v lane (bit_on c.args.input lane)) c.self.view_is,
    )
