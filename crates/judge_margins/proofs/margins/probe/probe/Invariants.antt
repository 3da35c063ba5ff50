use Rattle.std.proofs.Common.{◌-◌, ◌≤◌, length}
use Rattle.judge_margins.specs.margins.Asks.{AreTold}
use Rattle.judge_margins.proofs.margins.probe.probe.Given as goal

abbrev pub invariant-next_block : goal.invariant-next_block
invariant-next_block l = record {
  within : length l.told.items ≤ length l.asks;
  told : AreTold l.of l.asks l.told.items (length l.told.items);
}

abbrev pub decreases-next_block : goal.decreases-next_block
decreases-next_block l = length l.asks - length l.told.items
