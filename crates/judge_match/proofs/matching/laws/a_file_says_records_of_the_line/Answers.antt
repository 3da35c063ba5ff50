use Rattle.judge_match.proofs.matching_lemmas.OneRecord.{records_of_the_line}
use Rattle.judge_match.proofs.matching.laws.a_file_says_records_of_the_line.Goals as goal

pub returns : goal.returns
returns c = records_of_the_line
