use Rattle.std.proofs.Common.{◌≡◌, ◌++◌}
use Rattle.model_history.specs.Each.{each_below}
use Rattle.draw_run.specs.diagram.Traces.{loss_at}
use Rattle.draw_run.proofs.diagram.trace.push_losses.Given as goal

abbrev pub invariant-loop-c : goal.invariant-loop-c
invariant-loop-c l = l.all.items ≡ l.initial.all.items ++ each_below l.c (loss_at l.line l.k)
