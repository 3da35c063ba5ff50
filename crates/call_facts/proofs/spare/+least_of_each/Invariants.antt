use Rattle.std.proofs.Common.{length}
use Rattle.call_facts.proofs.spare.+least_of_each.Given as goal

abbrev pub decreases-least_of_each : goal.decreases-least_of_each
decreases-least_of_each l = length l.all.now
