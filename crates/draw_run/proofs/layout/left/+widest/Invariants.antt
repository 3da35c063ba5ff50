use Rattle.std.proofs.Common.{length}
use Rattle.draw_run.proofs.layout.left.+widest.Given as goal

abbrev pub decreases-widest : goal.decreases-widest
decreases-widest l = length l.rows.now
