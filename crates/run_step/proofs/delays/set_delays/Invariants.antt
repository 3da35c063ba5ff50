use Rattle.std.proofs.Common.{◌<◌}
use Rattle.run_step.specs.Inputs.{AreDelays}
use Rattle.run_step.specs.LoopLaws.{FirstHave}
use Rattle.run_step.specs.Inputs.{DelaysStand}
use Rattle.run_step.proofs.delays.set_delays.Given as goal

abbrev pub invariant-loop-channel : goal.invariant-loop-channel
invariant-loop-channel g l = record {
  are : AreDelays l.run.compiled.now.line.now l.delays.items;
  stand : DelaysStand g.V.Signal.signal l.run l.t l.delays.items;
  set : FirstHave (λ d. l.t < d.until) l.delays.items l.channel;
}
