use Rattle.std.proofs.Common.{◌<◌, ℕ, take}
use Rattle.std.specs.List.{All}
use Rattle.draw_run.specs.diagram.Windows.{IsInWindow, IsTickBelow, ShowsMore}
use Rattle.draw_run.proofs.diagram.window.with_marks.Given as goal

abbrev pub invariant-loop-mark : goal.invariant-loop-mark
invariant-loop-mark l = record {
  shown : All (IsInWindow l.wide) (take l.mark-index l.marks);
  below : (h : ℕ) → l.fn.window.last < h → All (IsTickBelow h) l.marks → l.wide.last < h;
  wider : ShowsMore l.fn.window l.wide;
}
