use Rattle.std.proofs.lemmas.Option.{slice_get_within}
use Rattle.call_tables.specs.Written.{failing_timings}
use Rattle.call_tables.proofs.NamedLaws.{all_stand, one_file, all_fail}
use Rattle.call_tables.proofs.laws.failing_timings_are_of_one_file.Goals as goal

pub returns-clause-stand : goal.returns-clause-stand
returns-clause-stand c = all_stand

pub returns-clause-one_file : goal.returns-clause-one_file
returns-clause-one_file c = one_file

pub returns-clause-fail : goal.returns-clause-fail
returns-clause-fail c = λ line scripts rows s script are at.
    all_fail line scripts rows s are (slice_get_within scripts s script at) script at

pub returns-clause-two : goal.returns-clause-two
returns-clause-two c = λ line scripts rows s are lt two.
    c.a_file_of_timings_is_short.ensures.two line (failing_timings line rows s)
    (all_stand line scripts rows s are lt) two

pub returns-clause-few_steps : goal.returns-clause-few_steps
returns-clause-few_steps c = λ line scripts rows s are lt some few.
    c.a_file_of_timings_is_short.ensures.few_steps line (failing_timings line rows s)
    (all_stand line scripts rows s are lt) (one_file line scripts rows s are lt some).few few
