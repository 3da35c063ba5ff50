use Rattle.std.proofs.Common.{◌≡◌, ◌++◌, take}
use Rattle.std.specs.List.{flat_map}
use Rattle.call_shots.specs.Delays.{step_row}
use Rattle.call_shots.proofs.delays.push_steps.Given as goal

abbrev pub invariant-loop-step : goal.invariant-loop-step
invariant-loop-step l =
    l.text.items
    ≡ l.initial.text.items
    ++ flat_map (step_row l.line l.name l.number l.c) (take l.step-index l.steps)
