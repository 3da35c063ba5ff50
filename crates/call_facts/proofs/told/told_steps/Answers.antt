use Rattle.call_facts.specs.Told.{IsToldStep}
use Rattle.call_facts.specs.SideLaws.{each_item}
use Rattle.call_facts.proofs.told.told_steps.Goals as goal

pub loop-step-preserved : goal.loop-step-preserved
loop-step-preserved c =
    each_item (IsToldStep c.args.line.now) c.args.steps.now c.loop-step.told.items
    c.push.new.self.items c.loop-step.step-index c.step-item.result c.in_ok-one.one
    c.loop-step-test.true c.step-item.is c.in_ok-push.ensures.items c.in_ok-one.ensures
    c.loop-step.invariant
