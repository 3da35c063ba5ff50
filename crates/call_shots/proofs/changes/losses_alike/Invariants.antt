use Rattle.std.proofs.Common.{◌≡◌}
use Rattle.call_shots.specs.Changes.{losses_alike}
use Rattle.call_shots.proofs.changes.losses_alike.Given as goal

abbrev pub invariant-loop-c : goal.invariant-loop-c
invariant-loop-c l = l.alike ≡ losses_alike l.line l.script l.terminal l.t l.u l.c
