use Rattle.std.proofs.Common.{length}
use Rattle.judge_why.proofs.delay.+number_by.Given as goal

abbrev pub decreases-number_by : goal.decreases-number_by
decreases-number_by l = length l.steps.now
