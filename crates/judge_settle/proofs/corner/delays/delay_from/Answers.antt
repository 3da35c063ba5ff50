use Rattle.std.proofs.Common.{◌≡◌, ◌<◌, ◌≤◌, ℕ, sym, subst, arith}
use Rattle.model_line.specs.Parameters.{param_count, delay_param, declared_ends}
use Rattle.model_logic.specs.Choice.{IsIn}
use Rattle.judge_verdict.specs.verdict.PairWavesOf.{pair_history}
use Rattle.judge_settle.specs.corner.Named.{rail_named}
use Rattle.judge_settle.specs.corner.Corner.{corner}
use Rattle.judge_settle.proofs.corner_lemmas.CornerTimings.{delay_is, delay_inside}
use Rattle.judge_settle.proofs.corner.delays.delay_from.Goals as goal
use Rattle.judge_settle.proofs.corner.delays.delay_from.Goals.{After-min}

pub worst_from-lasting-requires-clause-sender : goal.worst_from-lasting-requires-clause-sender
worst_from-lasting-requires-clause-sender c =
    omega (arith, c.sender_of-sender.ensures.exists, c.requires.terminals)

pub worst_from-lasting-requires-clause-short : goal.worst_from-lasting-requires-clause-short
worst_from-lasting-requires-clause-short c =
    let line = c.args.line.now in
    omega (arith, c.requires.horizon, line.horizon_in_range.1)

told : (c : After-min) (r : ℕ) → c.args.t ≤ r → r < c.worst_from-lasting.result.until
    → r < c.args.waves.now.horizon
    → c.worst_from-lasting.result.delay
    ≡ (corner c.args.line.now (rail_named c.args.rail) (pair_history c.args.waves.now)).delay
    c.args.channel r
told c r late early inside =
    delay_is c.args.line.now (rail_named c.args.rail) (pair_history c.args.waves.now) c.args.channel
    r _ _ _ _ _ _ c.key_rail-rail.ensures c.sender_of-sender.ensures.is
    c.delay_of-param.ensures.number c.least-least.ensures.number c.greatest-greatest.ensures.number
    (c.worst_from-lasting.ensures.worst r late early inside)

pub returns-clause-delay : goal.returns-clause-delay
returns-clause-delay c = λ r late early.
    told c r late (omega (arith, early, c.min.ensures)) (omega (arith, early, c.min.ensures))

pub returns-clause-within : goal.returns-clause-within
returns-clause-within c =
    let line = c.args.line.now in
    subst (λ (n : ℕ). IsIn n (declared_ends line (delay_param line c.args.channel)))
    (sym (told c c.args.t (omega arith) c.worst_from-lasting.ensures.later c.requires.tick))
    (delay_inside line (rail_named c.args.rail) (pair_history c.args.waves.now) c.args.channel
    c.args.t c.worst_delays_are_rails.ensures c.declared_intervals_are_in_order.ensures
    (subst (λ (i : ℕ). i < param_count line) c.delay_of-param.ensures.number
    c.delay_of-param.ensures.within))
