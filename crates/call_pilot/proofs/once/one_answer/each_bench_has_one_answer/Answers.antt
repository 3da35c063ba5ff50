use Rattle.call_pilot.proofs.once_lemmas.OneBench.{bench_once}
use Rattle.call_pilot.proofs.once.one_answer.each_bench_has_one_answer.Goals as goal

pub returns : goal.returns
returns c = λ n s t a b small.
    bench_once c.line_laws.ensures c.the_rule_over_a_box.ensures
    c.counts_do_not_rest_on_the_intervals.ensures c.histories_do_not_rest_on_the_intervals.ensures n
    small s t a b
