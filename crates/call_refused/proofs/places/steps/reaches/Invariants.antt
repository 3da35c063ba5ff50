use Rattle.std.proofs.Common.{◌≡◌, Some, drop}
use Rattle.toml.specs.View.{view}
use Rattle.call_refused.specs.places.Entries.{reached}
use Rattle.call_refused.proofs.places.steps.reaches.Given as goal

-- what stands behind the steps that are left is what stands behind all
abbrev pub invariant-loop-step : goal.invariant-loop-step
invariant-loop-step l =
    reached (Some (view l.here)) (drop l.step-index l.steps) ≡ reached (Some (view l.value)) l.steps
