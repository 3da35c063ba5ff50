use Rattle.std.proofs.Common.{◌≡◌, map, take}
use Rattle.std.specs.List.{All}
use Rattle.draw_run.specs.diagram.Diagrams.{IsMarkedRow, trace_of}
use Rattle.draw_run.proofs.diagram.rows.rows_of.Given as goal

abbrev pub invariant-loop-trace : goal.invariant-loop-trace
invariant-loop-trace g l = record {
  traces : map trace_of l.all.items ≡ take l.trace-index l.traces;
  rows : All (IsMarkedRow l.line l.script (g.H.Shown.pairs l.shown) l.steps l.which) l.all.items;
}
