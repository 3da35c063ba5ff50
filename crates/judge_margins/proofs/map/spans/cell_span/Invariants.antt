use Rattle.std.proofs.Common.{◌≡◌, ◌≤◌, ℕ, ◌<◌, length}
use Rattle.std.specs.Prelude.{slice_index}
use Rattle.judge_margins.specs.map.Blocks.{lane_cell}
use Rattle.judge_margins.proofs.map.spans.cell_span.Given as goal

-- the lanes so far have the ends of their cells
abbrev pub invariant-loop-lane : goal.invariant-loop-lane
invariant-loop-lane l = record {
  long : length l.least ≡ 64;
  long_too : length l.greatest ≡ 64;
  least : (k : ℕ) → k < l.lane
      → slice_index l.least k ≡ ((lane_cell l.line l.axes l.first k).ends l.param).least;
  greatest : (k : ℕ) → k < l.lane
      → slice_index l.greatest k ≡ ((lane_cell l.line l.axes l.first k).ends l.param).greatest;
  ordered : (k : ℕ) → k < l.lane → slice_index l.least k ≤ slice_index l.greatest k;
}
