use Rattle.std.proofs.Common.{◌≡◌, ◌≢◌, ◌<◌, ◌≤◌, ◌-◌, ℕ, suc}
use Rattle.draw_run.specs.{diagram.Stretches.AreStretches, diagram.Traces.trace_pair}
use Rattle.draw_run.proofs.diagram.stretch.stretches.Given as goal

abbrev pub invariant-loop-from : goal.invariant-loop-from
invariant-loop-from g l = record {
  are : AreStretches (trace_pair l.script (g.H.Shown.pairs l.shown) l.trace) 0 l.all.items l.from;
  within : l.from ≤ l.line.horizon;
  change : l.from < l.line.horizon → (t : ℕ) → suc t ≡ l.from
      → trace_pair l.script (g.H.Shown.pairs l.shown) l.trace t
      ≢ trace_pair l.script (g.H.Shown.pairs l.shown) l.trace l.from;
}

abbrev pub decreases-loop-from : goal.decreases-loop-from
decreases-loop-from g l = l.line.horizon - l.from
