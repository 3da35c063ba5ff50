use Rattle.std.proofs.Common.{length}
use Rattle.call_choose.proofs.settings.+have_ends.Given as goal

abbrev pub decreases-have_ends : goal.decreases-have_ends
decreases-have_ends l = length l.params.now
