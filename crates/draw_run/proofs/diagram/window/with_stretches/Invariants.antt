use Rattle.std.proofs.Common.{◌<◌, ℕ, take}
use Rattle.std.specs.List.{All}
use Rattle.draw_run.specs.diagram.Windows.{BeginsBelow, IsChangeShown, ShowsMore}
use Rattle.draw_run.proofs.diagram.window.with_stretches.Given as goal

abbrev pub invariant-loop-stretch : goal.invariant-loop-stretch
invariant-loop-stretch l = record {
  shown : All (IsChangeShown l.wide) (take l.stretch-index l.stretches);
  below : (h : ℕ) → l.fn.window.last < h → All (BeginsBelow h) l.stretches → l.wide.last < h;
  wider : ShowsMore l.fn.window l.wide;
}
