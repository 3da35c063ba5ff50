use Rattle.std.proofs.Common.{◌≡◌, ◌<◌, ℕ, Some}
use Rattle.std.specs.Prelude.{Decides, slice_get}
use Rattle.run_signal.specs.Bits.{bit_on}
use Rattle.judge_cases.specs.{declared.view.View.View, Excluded.OneIsExcluded}
use Rattle.judge_cases.proofs.analysis.excluded_lanes.Given as goal

abbrev pub invariant-loop-lane : goal.invariant-loop-lane
invariant-loop-lane l = (k : ℕ) (view : View) → k < l.lane → slice_get l.views k ≡ Some view
    → Decides (bit_on l.lanes k) (OneIsExcluded l.compiled.line.now l.compiled.net.now view k
    l.waves)
