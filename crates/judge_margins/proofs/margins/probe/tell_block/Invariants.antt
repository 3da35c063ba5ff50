use Rattle.std.proofs.Common.{◌+◌}
use Rattle.judge_margins.specs.margins.Asks.{AreTold}
use Rattle.judge_margins.proofs.margins.probe.tell_block.Given as goal

abbrev pub invariant-loop-lane : goal.invariant-loop-lane
invariant-loop-lane l = AreTold l.of l.asks l.told.items (l.first + l.lane)
