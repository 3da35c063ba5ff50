use Rattle.judge_slacks.proofs.EndLaws.{one_end_read}
use Rattle.judge_slacks.proofs.laws.an_obligation_reads_one_end.Goals as goal

pub returns : goal.returns
returns c = one_end_read c.laws_below.ensures
