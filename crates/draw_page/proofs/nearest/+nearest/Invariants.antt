use Rattle.std.proofs.Common.{length}
use Rattle.draw_page.proofs.nearest.+nearest.Given as goal

abbrev pub decreases-nearest : goal.decreases-nearest
decreases-nearest l = length l.faults.now
