use Rattle.judge_choose.specs.Lanes.{AreOnBefore}
use Rattle.judge_choose.proofs.lanes.first_off.Given as goal

abbrev pub invariant-loop-place : goal.invariant-loop-place
invariant-loop-place l = AreOnBefore l.kept l.told l.lane l.place
