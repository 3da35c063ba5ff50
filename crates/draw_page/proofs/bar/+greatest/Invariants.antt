use Rattle.std.proofs.Common.{length}
use Rattle.draw_page.proofs.bar.+greatest.Given as goal

abbrev pub decreases-greatest : goal.decreases-greatest
decreases-greatest l = length l.times.now
