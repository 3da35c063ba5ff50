use Rattle.std.proofs.Common.{length}
use Rattle.call_races.proofs.began.+push_begins.Given as goal

abbrev pub decreases-push_begins : goal.decreases-push_begins
decreases-push_begins l = length l.all.now
