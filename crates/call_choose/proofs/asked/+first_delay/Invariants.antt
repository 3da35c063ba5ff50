use Rattle.std.proofs.Common.{length}
use Rattle.call_choose.proofs.asked.+first_delay.Given as goal

abbrev pub decreases-first_delay : goal.decreases-first_delay
decreases-first_delay l = length l.params.now
