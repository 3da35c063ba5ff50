use Rattle.std.proofs.Common.{length}
use Rattle.call_times.proofs.rows.+push_stretches.Given as goal

abbrev pub decreases-push_stretches : goal.decreases-push_stretches
decreases-push_stretches l = length l.all.now
