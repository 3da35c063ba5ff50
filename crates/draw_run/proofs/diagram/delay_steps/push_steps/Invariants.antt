use Rattle.std.proofs.Common.{◌≡◌, ◌++◌, take}
use Rattle.std.specs.List.{flat_map}
use Rattle.draw_run.specs.diagram.DelaySteps.{tick_of_step}
use Rattle.draw_run.proofs.diagram.delay_steps.push_steps.Given as goal

abbrev pub invariant-loop-step : goal.invariant-loop-step
invariant-loop-step l =
    l.all.items
    ≡ l.initial.all.items
    ++ flat_map (tick_of_step l.param l.horizon) (take l.step-index l.steps)
