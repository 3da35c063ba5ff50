use Rattle.std.proofs.Common.{◌≡◌, ◌<◌, ℕ, Some}
use Rattle.std.specs.Prelude.{slice_get}
use Rattle.judge_margins.specs.map.Placed.{CanPlace}
use Rattle.judge_margins.proofs.map.intervals.can_place_all.Given as goal

abbrev pub invariant-loop-i : goal.invariant-loop-i
invariant-loop-i l = (j param : ℕ) → j < l.i → slice_get l.params j ≡ Some param
    → CanPlace l.line l.least param
