use Rattle.std.proofs.Common.{length}
use Rattle.draw_run.proofs.layout.rows.+bottom_of.Given as goal

abbrev pub decreases-bottom_of : goal.decreases-bottom_of
decreases-bottom_of l = length l.rows.now
