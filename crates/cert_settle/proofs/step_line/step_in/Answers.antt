use Rattle.std.proofs.Common.{below_more, arith, refl, ◌<◌}
use Rattle.cert_settle.proofs.step_line.step_in.Goals as goal

pub loop-p-preserved : goal.loop-p-preserved
loop-p-preserved c =
    below_more _ _ c.loop-p.invariant (λ step same inside is. c.in_default.ensures step same inside is)

pub returns : goal.returns
returns c = λ step inside is.
    let exists = c.laws_below.ensures.delays.exists c.args.line.now step.param inside.delay in
    let here : step.param < c.loop-p.p =
    omega (arith, exists, c.loop-p-test.false, c.param_count-p-end.ensures.count) in
    c.loop-p.invariant step.param here step refl inside is
