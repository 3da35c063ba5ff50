use Rattle.run_step.specs.InputLaws.{script_fewer}
use Rattle.run_borders.proofs.shown.both_stay.Goals as goal

pub returns-clause-certain : goal.returns-clause-certain
returns-clause-certain c =
    script_fewer c.args.run.now.certain.now.spans.items c.args.t c.lesser.result
    c.script_stays-certain.result c.lesser.ensures.first c.script_stays-certain.ensures.keeps

pub returns-clause-perhaps : goal.returns-clause-perhaps
returns-clause-perhaps c =
    script_fewer c.args.run.now.perhaps.now.spans.items c.args.t c.lesser.result
    c.script_stays-perhaps.result c.lesser.ensures.second c.script_stays-perhaps.ensures.keeps
