use Rattle.std.proofs.Common.{sym, ◌∙◌, arith}
use Rattle.judge_verdict.proofs.verdict_lemmas.FirstWithin.{off_below, on_first}
use Rattle.judge_verdict.proofs.verdict.rule.comes_within.Goals as goal

pub returns-in-Some : goal.returns-in-Some
returns-in-Some c = λ u n few is.
    let here = (c.the_first_tick_is_the_least.ensures.some u n c.in-Some.t).0
    (sym is ∙ c.in-Some.is) in
    on_first c.tests_are_their_facts.ensures u c.args.ticks c.in-Some.t here.1 here.2

pub returns-in-None : goal.returns-in-None
returns-in-None c = λ u n few is.
    off_below c.tests_are_their_facts.ensures u c.args.ticks
    (λ t early. (c.the_first_tick_is_the_least.ensures.none u n).0 (sym is ∙ c.in-None.is) t
    (omega arith))
