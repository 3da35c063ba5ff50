use Rattle.std.proofs.Common.{◌-◌, ◌≤◌, length}
use Rattle.judge_choose.specs.Ranges.{AreRangesBelow}
use Rattle.judge_choose.proofs.choose.ranges.Given as goal

abbrev pub invariant-next_block : goal.invariant-next_block
invariant-next_block l = record {
  within : length l.ranges.items ≤ length l.settings;
  ranges : AreRangesBelow l.compiled.line.now l.scripts l.settings (length l.ranges.items)
      l.ranges.items;
}

abbrev pub decreases-next_block : goal.decreases-next_block
decreases-next_block l = length l.settings - length l.ranges.items
