use Rattle.std.proofs.Common.{length}
use Rattle.call_why.proofs.why.+some_open.Given as goal

abbrev pub decreases-some_open : goal.decreases-some_open
decreases-some_open l = length l.settled.now
