use Rattle.std.proofs.Common.{◌≤◌}
use Rattle.judge_split.proofs.parts.inner_parts.Given as goal

abbrev pub invariant-loop-level : goal.invariant-loop-level
invariant-loop-level l = l.count ≤ 254
