use Rattle.std.proofs.Common.{length}
use Rattle.call_races.proofs.began.+push_came.Given as goal

abbrev pub decreases-push_came : goal.decreases-push_came
decreases-push_came l = length l.ids.now
