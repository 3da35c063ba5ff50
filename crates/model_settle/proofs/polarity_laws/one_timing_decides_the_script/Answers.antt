use Rattle.model_settle.proofs.WorstTimings.{worst_timing}
use Rattle.model_settle.proofs.polarity_laws.one_timing_decides_the_script.Goals as goal

pub returns : goal.returns
returns c line script early by_scheme =
    worst_timing c.history_laws.ensures c.line_laws.ensures c.declared_intervals_are_in_order.ensures
    line script early by_scheme
