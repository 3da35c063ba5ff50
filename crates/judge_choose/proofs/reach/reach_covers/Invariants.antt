use Rattle.std.proofs.Common.{◌≡◌, length}
use Rattle.judge_choose.specs.Told.{AreCovers}
use Rattle.judge_choose.proofs.reach.reach_covers.Given as goal

abbrev pub invariant-loop-lane : goal.invariant-loop-lane
invariant-loop-lane l = record {
  count : length l.covers.items ≡ l.lane;
  covers : AreCovers l.line l.covers.items;
}
