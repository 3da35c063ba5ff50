use Rattle.std.proofs.Common.{◌≤◌}
use Rattle.run_step.specs.LoopLaws.{FirstHave}
use Rattle.run_step.proofs.delays.first_over.Given as goal

abbrev pub invariant-loop-channel : goal.invariant-loop-channel
invariant-loop-channel g l = FirstHave (λ d. l.until ≤ d.until) l.delays l.channel
