use Rattle.std.proofs.Common.{length}
use Rattle.call_why.proofs.why.+first_failing.Given as goal

abbrev pub decreases-first_failing : goal.decreases-first_failing
decreases-first_failing l = length l.settled.now
