use Rattle.std.proofs.Common.{length}
use Rattle.judge_times.proofs.along.+some_unheld.Given as goal

abbrev pub decreases-some_unheld : goal.decreases-some_unheld
decreases-some_unheld l = length l.parts.now
