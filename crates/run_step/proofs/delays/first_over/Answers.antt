use Rattle.std.proofs.Common.{◌≤◌}
use Rattle.std.proofs.Math.Nat.{le_of_lt, le_trans}
use Rattle.run_step.specs.declared.delays.Delay.{Delay}
use Rattle.run_step.specs.LoopLaws.{first_read, first_all}
use Rattle.run_step.proofs.delays.first_over.Goals as goal

pub offset_bounds-delays-channel : goal.offset_bounds-delays-channel
offset_bounds-delays-channel g c = le_of_lt c.loop-channel-test.true

pub loop-channel-preserved : goal.loop-channel-preserved
loop-channel-preserved g c =
    let n = c.lesser-until.result in
    let first : n ≤ c.loop-channel.until = c.lesser-until.ensures.first in
    first_read (λ (d : Delay _). n ≤ d.until) c.args.delays.now c.loop-channel.channel
    c.index-delays-channel.result c.loop-channel-test.true
    (λ j y lt at. le_trans first (c.loop-channel.invariant j y lt at))
    c.lesser-until.ensures.second

pub returns : goal.returns
returns g c =
    first_all (λ (d : Delay _). c.loop-channel.until ≤ d.until) c.args.delays.now
    c.loop-channel.channel c.loop-channel-test.false c.loop-channel.invariant
