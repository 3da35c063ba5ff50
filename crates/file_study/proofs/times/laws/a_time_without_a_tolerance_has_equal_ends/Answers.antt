use Rattle.file_study.proofs.times_lemmas.EqualEnds.{equal_ends}
use Rattle.file_study.proofs.times.laws.a_time_without_a_tolerance_has_equal_ends.Goals as goal

pub returns : goal.returns
returns c hertz text ends two is = equal_ends hertz text ends two is
