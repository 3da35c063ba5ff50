use Rattle.std.proofs.Common.{◌≡◌, length}
use Rattle.judge_times.specs.Told.{AreAlso}
use Rattle.judge_times.proofs.ticks.both_fail.Given as goal

abbrev pub invariant-loop-k : goal.invariant-loop-k
invariant-loop-k l = (length l.both.items ≡ l.k) × AreAlso l.one l.both.items
