use Rattle.std.proofs.Common.{◌-◌}
use Rattle.run_step.specs.DelayLaws.{end_fewer}
use Rattle.run_changes.proofs.changes.arrivals.sooner.Goals as goal

pub returns-clause-keeps : goal.returns-clause-keeps
returns-clause-keeps g c = λ _ lane u inside is.
    end_fewer u (c.args.t - 1) c.args.c c.args.t c.lesser.result c.end_stays.result
    c.lesser.ensures.second (c.end_stays.ensures.keeps lane u inside is)
