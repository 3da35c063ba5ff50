use Rattle.file_study.specs.times.WholeTickLaws.{divided_down, divided_up}
use Rattle.file_study.proofs.times.laws.whole_microseconds_are_rounded_as_in_a_line_file.Goals as goal

pub returns-clause-down : goal.returns-clause-down
returns-clause-down c tick_us n ticked = divided_down tick_us n ticked

pub returns-clause-up : goal.returns-clause-up
returns-clause-up c tick_us n ticked = divided_up tick_us n ticked
