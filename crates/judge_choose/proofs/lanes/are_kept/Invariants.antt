use Rattle.judge_choose.specs.Lanes.{AreKeptBefore}
use Rattle.judge_choose.proofs.lanes.are_kept.Given as goal

abbrev pub invariant-loop-place : goal.invariant-loop-place
invariant-loop-place l = AreKeptBefore l.kept l.told l.lane l.place
