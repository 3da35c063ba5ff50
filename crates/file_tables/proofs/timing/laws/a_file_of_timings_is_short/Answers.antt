use Rattle.std.proofs.Common.{arith}
use Rattle.file_tables.proofs.timing_lemmas.Lengths.{file_short, steps_of_each}
use Rattle.file_tables.proofs.timing.laws.a_file_of_timings_is_short.Goals as goal

pub returns-clause-length : goal.returns-clause-length
returns-clause-length c = λ line timings may.
    file_short c.declared_intervals_are_in_order.ensures c.delays_are_parameters.ensures line
    (c.parameters_are_numbered.ensures.few line) timings may

pub returns-clause-steps : goal.returns-clause-steps
returns-clause-steps c = λ line timings may.
    steps_of_each c.settings_are_counted.ensures line timings may

pub returns-clause-two : goal.returns-clause-two
returns-clause-two c = λ line timings may two.
    let long = file_short c.declared_intervals_are_in_order.ensures c.delays_are_parameters.ensures line
    (c.parameters_are_numbered.ensures.few line) timings may in
    let steps = steps_of_each c.settings_are_counted.ensures line timings may in
    omega (arith, long, steps, two)

pub returns-clause-few_steps : goal.returns-clause-few_steps
returns-clause-few_steps c = λ line timings may many few.
    let long = file_short c.declared_intervals_are_in_order.ensures c.delays_are_parameters.ensures line
    (c.parameters_are_numbered.ensures.few line) timings may in
    omega (arith, long, few, many)
