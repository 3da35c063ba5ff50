use Rattle.std.proofs.Common.{length}
use Rattle.judge_times.proofs.along.+some_unheld_over.Given as goal

abbrev pub decreases-some_unheld_over : goal.decreases-some_unheld_over
decreases-some_unheld_over l = length l.parts.now
