use Rattle.std.proofs.Common.{◌<◌, ◌≤◌, ◌-◌, length, slice_index}
use Rattle.file_comtrade.proofs.ticks.holding.Given as goal

abbrev pub invariant-loop-high : goal.invariant-loop-high
invariant-loop-high l = record {
  below : l.low < l.high;
  inside : l.high ≤ length l.times;
  begun : slice_index l.times l.low ≤ l.instant;
  last : l.high < length l.times → l.instant < slice_index l.times l.high;
}

abbrev pub decreases-loop-high : goal.decreases-loop-high
decreases-loop-high l = l.high - l.low
