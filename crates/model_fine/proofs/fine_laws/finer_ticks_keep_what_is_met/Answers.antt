use Rattle.model_fine.proofs.FinerTicks.{finer_meets}
use Rattle.model_fine.proofs.fine_laws.finer_ticks_keep_what_is_met.Goals as goal

pub returns : goal.returns
returns c = λ n line finer script other k some cut cut_script every.
    finer_meets c.counts_do_not_rest_on_the_intervals.ensures
    c.trees_do_not_rest_on_the_intervals.ensures c.line_laws.ensures.delays n line finer cut script
    other k some cut_script every
