use Rattle.std.proofs.Common.{◌≤◌, length}
use Rattle.std.specs.Prelude.{IsFalse}
use Rattle.judge_settle.specs.corner.Obligations.{StepsMatterIn}
use Rattle.judge_settle.specs.corner.Rounds.{IsRound}
use Rattle.judge_settle.proofs.corner.step.leave_steps.Given as goal

abbrev pub invariant-steps : goal.invariant-steps
invariant-steps l = record {
  within : l.j ≤ length l.cut.steps;
  round : IsRound l.of l.fn.cut l.cut l.left;
  matter : IsFalse l.left → StepsMatterIn l.of l.cut l.j;
}

abbrev pub decreases-steps : goal.decreases-steps
decreases-steps l = l.j
