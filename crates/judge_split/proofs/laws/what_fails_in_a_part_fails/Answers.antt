use Rattle.judge_split.proofs.SearchLaws.{fails_refutes}
use Rattle.judge_split.proofs.laws.what_fails_in_a_part_fails.Goals as goal

pub returns : goal.returns
returns c line script k n timing early kn found =
    fails_refutes c.laws_below.ensures script k n line timing early kn found
