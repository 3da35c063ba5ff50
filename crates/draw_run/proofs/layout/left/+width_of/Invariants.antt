use Rattle.std.proofs.Common.{length}
use Rattle.draw_run.proofs.layout.left.+width_of.Given as goal

abbrev pub decreases-width_of : goal.decreases-width_of
decreases-width_of l = length l.words.now
