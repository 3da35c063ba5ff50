use Rattle.std.proofs.Common.{length}
use Rattle.draw_map.proofs.declared.+all_at.Given as goal

abbrev pub decreases-all_at : goal.decreases-all_at
decreases-all_at l = length l.params.now
