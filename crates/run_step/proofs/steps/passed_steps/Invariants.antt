use Rattle.std.proofs.Common.{◌-◌}
use Rattle.run_step.proofs.SearchLaws.{Halves}
use Rattle.run_step.proofs.steps.passed_steps.Given as goal

abbrev pub invariant-loop-low : goal.invariant-loop-low
invariant-loop-low g l = Halves l.param l.t l.steps l.low l.high

abbrev pub decreases-loop-low : goal.decreases-loop-low
decreases-loop-low g l = l.high - l.low
