use Rattle.std.proofs.Common.{take}
use Rattle.call_facts.specs.{Told.IsToldStep, Lists.EachOf}
use Rattle.call_facts.proofs.told.told_steps.Given as goal

abbrev pub invariant-loop-step : goal.invariant-loop-step
invariant-loop-step l =
    EachOf (IsToldStep l.line) (take l.step-index l.steps) l.told.items
