use Rattle.std.proofs.Common.{◌+◌}
use Rattle.judge_choose.specs.Ranges.{AreRangesBelow}
use Rattle.judge_choose.proofs.choose.show.Given as goal

abbrev pub invariant-loop-i : goal.invariant-loop-i
invariant-loop-i l =
    AreRangesBelow l.compiled.line.now l.scripts l.settings (l.first + l.i) l.ranges.items
