use Rattle.std.proofs.Common.{length}
use Rattle.call_races.proofs.words.+push_marked.Given as goal

abbrev pub decreases-push_marked : goal.decreases-push_marked
decreases-push_marked l = length l.marks.now
