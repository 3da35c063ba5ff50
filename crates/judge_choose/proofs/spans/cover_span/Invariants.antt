use Rattle.std.proofs.Common.{◌≡◌, ◌≤◌, ℕ, ◌<◌, Some, length}
use Rattle.std.specs.Prelude.{slice_get, slice_index}
use Rattle.judge_choose.specs.{declared.cover.Cover.Cover, Positions.box_of_cover, Told.cover_in}
use Rattle.judge_choose.proofs.spans.cover_span.Given as goal

-- the lanes so far have the ends of their covers
abbrev pub invariant-loop-lane : goal.invariant-loop-lane
invariant-loop-lane l = record {
  long : length l.least ≡ 64;
  long_too : length l.greatest ≡ 64;
  least : (k : ℕ) (cover : Cover) → k < l.lane
      → slice_get l.covers (cover_in (length l.covers) k) ≡ Some cover
      → slice_index l.least k ≡ ((box_of_cover l.line cover).ends l.param).least;
  greatest : (k : ℕ) (cover : Cover) → k < l.lane
      → slice_get l.covers (cover_in (length l.covers) k) ≡ Some cover
      → slice_index l.greatest k ≡ ((box_of_cover l.line cover).ends l.param).greatest;
  ordered : (k : ℕ) → k < l.lane → slice_index l.least k ≤ slice_index l.greatest k;
}
