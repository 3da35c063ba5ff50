use Rattle.std.proofs.Common.{length}
use Rattle.call_study.proofs.few.+scripts_named.Given as goal

abbrev pub decreases-scripts_named : goal.decreases-scripts_named
decreases-scripts_named l = length l.groups.now
