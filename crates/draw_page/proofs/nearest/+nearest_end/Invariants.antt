use Rattle.std.proofs.Common.{length}
use Rattle.draw_page.proofs.nearest.+nearest_end.Given as goal

abbrev pub decreases-nearest_end : goal.decreases-nearest_end
decreases-nearest_end l = length l.verdicts.now
