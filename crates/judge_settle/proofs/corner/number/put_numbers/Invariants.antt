use Rattle.std.specs.Prelude.{IsFalse}
use Rattle.judge_settle.specs.corner.Obligations.{MatterIn}
use Rattle.judge_settle.specs.corner.Rounds.{IsRound}
use Rattle.judge_settle.proofs.corner.number.put_numbers.Given as goal

abbrev pub invariant-loop-param : goal.invariant-loop-param
invariant-loop-param l = record {
  round : IsRound l.of l.fn.cut l.cut l.moved;
  matter : IsFalse l.moved → MatterIn l.of l.cut l.param;
}
