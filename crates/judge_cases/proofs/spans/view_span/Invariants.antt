use Rattle.std.proofs.Common.{◌≡◌, ℕ, ◌<◌, ◌≤◌, Some, length}
use Rattle.std.specs.Prelude.{slice_get, slice_index}
use Rattle.model_logic.specs.Boxes.{interval_of}
use Rattle.judge_cases.specs.{declared.view.View.View, Spans.view_in}
use Rattle.judge_cases.proofs.spans.view_span.Given as goal

-- the lanes so far have the ends of their views
abbrev pub invariant-loop-lane : goal.invariant-loop-lane
invariant-loop-lane l = record {
  long : length l.least ≡ 64;
  long_too : length l.greatest ≡ 64;
  least : (k : ℕ) (view : View) → k < l.lane
      → slice_get l.views (view_in (length l.views) k) ≡ Some view
      → slice_index l.least k ≡ (interval_of view.ends.items l.param).least;
  greatest : (k : ℕ) (view : View) → k < l.lane
      → slice_get l.views (view_in (length l.views) k) ≡ Some view
      → slice_index l.greatest k ≡ (interval_of view.ends.items l.param).greatest;
  ordered : (k : ℕ) → k < l.lane → slice_index l.least k ≤ slice_index l.greatest k;
}
