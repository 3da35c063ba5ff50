use Rattle.judge_split.proofs.HalfLaws.{mid_small}
use Rattle.judge_split.proofs.laws.middles_are_below_the_greatest_interval.Goals as goal

pub returns : goal.returns
returns c line param mid can = mid_small c.laws_below.ensures line param mid can
