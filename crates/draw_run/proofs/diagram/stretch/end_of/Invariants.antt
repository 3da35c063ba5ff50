use Rattle.std.proofs.Common.{◌≡◌, ◌<◌, ◌≤◌, ℕ}
use Rattle.run_signal.specs.Terns.{tern_rails}
use Rattle.draw_run.specs.diagram.Traces.{trace_pair}
use Rattle.draw_run.proofs.diagram.stretch.end_of.Given as goal

abbrev pub invariant-loop-t : goal.invariant-loop-t
invariant-loop-t g l =
    (r : ℕ) → l.from ≤ r → r < l.t
    → trace_pair l.script (g.H.Shown.pairs l.shown) l.trace r ≡ tern_rails l.value
