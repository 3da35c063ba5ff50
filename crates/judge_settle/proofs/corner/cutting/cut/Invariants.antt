use Rattle.std.proofs.Common.{◌+◌}
use Rattle.std.specs.Prelude.{IsFalse, if◌then◌else◌}
use Rattle.judge_settle.specs.corner.Obligations.{IsFailed, AllMatterIn}
use Rattle.judge_settle.specs.corner.Cuts.{IsLeftOf}
use Rattle.judge_settle.specs.corner.Rounds.{weight}
use Rattle.judge_settle.proofs.corner.cutting.cut.Given as goal

abbrev pub invariant-rounds : goal.invariant-rounds
invariant-rounds l = record {
  fails : IsFailed l.of l.cut;
  left : IsLeftOf l.of.compiled.line.now l.fn.timing l.cut;
  matters : IsFalse l.more → AllMatterIn l.of l.cut;
}

abbrev pub decreases-rounds : goal.decreases-rounds
decreases-rounds l = weight l.of.compiled.line.now l.cut + (if l.more then 1 else 0)
