use Rattle.std.proofs.Common.{◌<◌, ℕ, take}
use Rattle.std.specs.List.{All}
use Rattle.draw_run.specs.diagram.Windows.{ChangesBelow, IsShown, ShowsMore}
use Rattle.draw_run.proofs.diagram.window.with_rows.Given as goal

abbrev pub invariant-loop-row : goal.invariant-loop-row
invariant-loop-row l = record {
  shown : All (IsShown l.wide) (take l.row-index l.rows);
  below : (h : ℕ) → l.fn.window.last < h → All (ChangesBelow h) l.rows → l.wide.last < h;
  wider : ShowsMore l.fn.window l.wide;
}
