use Rattle.std.proofs.Common.{◌-◌}
use Rattle.judge_ahead.proofs.run.run_through.Given as goal

abbrev pub decreases-stretches : goal.decreases-stretches
decreases-stretches l = l.horizon - l.t
