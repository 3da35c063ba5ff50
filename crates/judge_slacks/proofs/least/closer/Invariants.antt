use Rattle.std.proofs.Common.{◌≡◌}
use Rattle.judge_slacks.specs.Asked.{IsHeldBy, move_at}
use Rattle.judge_slacks.proofs.least.closer.Given as goal

abbrev pub invariant-loop-lane : goal.invariant-loop-lane
invariant-loop-lane l = record {
  near : l.near ≡ move_at l.gap l.lane;
  off : IsHeldBy l.of l.near → ⊥;
}
