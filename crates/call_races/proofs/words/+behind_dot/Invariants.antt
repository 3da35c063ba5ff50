use Rattle.std.proofs.Common.{length}
use Rattle.call_races.proofs.words.+behind_dot.Given as goal

abbrev pub decreases-behind_dot : goal.decreases-behind_dot
decreases-behind_dot l = length l.name.now
