use Rattle.std.proofs.Common.{◌≡◌, ◌-◌, ◌≤◌}
use Rattle.call_shots.specs.Changes.{next_begun}
use Rattle.call_shots.proofs.changes.next_from.Given as goal

abbrev pub invariant-loop-u : goal.invariant-loop-u
invariant-loop-u l = record {
  within : l.u ≤ l.line.horizon;
  same : next_begun l.line l.script l.terminal l.fn.t (l.line.horizon - l.fn.t)
      ≡ next_begun l.line l.script l.terminal l.u (l.line.horizon - l.u);
}
