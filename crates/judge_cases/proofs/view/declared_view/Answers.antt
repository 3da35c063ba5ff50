use Rattle.judge_cases.proofs.ViewLaws.{declared_is}
use Rattle.judge_cases.proofs.view.declared_view.Goals as goal

pub returns : goal.returns
returns c =
    declared_is c.delays_are_parameters.ensures c.args.line.now
    (record { ends = c.in_ok-ends.ends; assumed = c.new-assumed.result })
    c.in_ok-ends.ensures.count c.in_ok-ends.ensures.each c.new-assumed.ensures.items
