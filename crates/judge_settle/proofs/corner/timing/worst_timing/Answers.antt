use Rattle.std.proofs.Common.{◌∙◌, ℕ, List, length, ap}
use Rattle.judge_verdict.specs.verdict.PairWavesOf.{pair_history}
use Rattle.judge_settle.specs.corner.Named.{rail_named}
use Rattle.judge_settle.proofs.corner_lemmas.CornerTimings.{count, made_inside, made_worst}
use Rattle.judge_settle.proofs.corner.timing.worst_timing.Goals as goal

pub worst_steps-requires-clause-count : goal.worst_steps-requires-clause-count
worst_steps-requires-clause-count c =
    ap (λ (xs : List ℕ). length xs) (c.as_slice-values.ensures.value ∙ c.in_ok-numbers.ensures)
    ∙ count c.args.line.now (rail_named c.args.rail)

pub returns-clause-inside : goal.returns-clause-inside
returns-clause-inside c =
    made_inside c.args.line.now (rail_named c.args.rail) (pair_history c.args.waves.now)
    c.in_ok-numbers.numbers.items c.in_ok-numbers.ensures c.as_slice-values.result.now
    c.as_slice-values.ensures.value c.in_ok-steps.steps.items c.in_ok-steps.ensures
    c.with_steps.result c.with_steps.ensures c.declared_intervals_are_in_order.ensures

pub returns-clause-worst : goal.returns-clause-worst
returns-clause-worst c =
    made_worst c.args.line.now (rail_named c.args.rail) (pair_history c.args.waves.now)
    c.in_ok-numbers.numbers.items c.in_ok-numbers.ensures c.as_slice-values.result.now
    c.as_slice-values.ensures.value c.in_ok-steps.steps.items c.in_ok-steps.ensures
    c.with_steps.result c.with_steps.ensures
