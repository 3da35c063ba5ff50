use Rattle.std.proofs.Common.{length}
use Rattle.call_work.proofs.map.axes.+first_among.Given as goal

abbrev pub decreases-first_among : goal.decreases-first_among
decreases-first_among l = length l.params.now
