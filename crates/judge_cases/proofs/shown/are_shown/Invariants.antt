use Rattle.std.proofs.Common.{◌≡◌, ◌≤◌, ◌-◌, ℕ, Bool, Some, length}
use Rattle.std.specs.Prelude.{Decides, slice_get}
use Rattle.judge_cases.specs.{declared.view.View.View, Analyses.IsShownOf}
use Rattle.judge_cases.proofs.shown.are_shown.Given as goal

abbrev pub invariant-next_block : goal.invariant-next_block
invariant-next_block l = record {
  inside : l.first ≤ length l.views;
  count : length l.shown.items ≡ l.first;
  each : (j : ℕ) (b : Bool) → slice_get l.shown.items j ≡ Some b → (view : View)
      → slice_get l.views j ≡ Some view → Decides b
      (IsShownOf l.compiled.line.now l.script l.terminal view);
}

abbrev pub decreases-next_block : goal.decreases-next_block
decreases-next_block l = length l.views - l.first
