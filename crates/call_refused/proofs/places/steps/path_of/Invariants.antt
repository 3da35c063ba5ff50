use Rattle.std.proofs.Common.{◌≡◌, [], drop}
use Rattle.call_refused.specs.places.Entries.{path_of}
use Rattle.call_refused.proofs.places.steps.path_of.Given as goal

-- the path behind the steps that are left is that of all
abbrev pub invariant-loop-step : goal.invariant-loop-step
invariant-loop-step l = path_of l.path (drop l.step-index l.steps) ≡ path_of [] l.steps
