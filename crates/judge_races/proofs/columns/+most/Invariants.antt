use Rattle.std.proofs.Common.{length}
use Rattle.judge_races.proofs.columns.+most.Given as goal

abbrev pub decreases-most : goal.decreases-most
decreases-most l = length l.columns.now
