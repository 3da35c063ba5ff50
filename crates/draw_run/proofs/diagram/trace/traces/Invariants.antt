use Rattle.std.proofs.Common.{◌≡◌}
use Rattle.model_history.specs.Each.{each_below}
use Rattle.draw_run.specs.diagram.Traces.{traces_at}
use Rattle.draw_run.proofs.diagram.trace.traces.Given as goal

abbrev pub invariant-loop-k : goal.invariant-loop-k
invariant-loop-k l = l.all.items
    ≡ each_below l.k (traces_at l.compiled.line.now l.compiled.net.now.gates)
