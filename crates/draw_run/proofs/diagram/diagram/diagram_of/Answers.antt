use Rattle.std.proofs.Common.{List, subst, sym}
use Rattle.std.proofs.lemmas.List.Elements.{All-weaker}
use Rattle.std.specs.List.{All}
use Rattle.draw_run.specs.declared.diagram.rows.Row.{Row}
use Rattle.draw_run.specs.{diagram.Diagrams.IsMarkedRow, diagram.Windows.ChangesBelow, diagram.Windows.IsShown}
use Rattle.draw_run.proofs.diagram_lemmas.WindowLaws.{row_below}
use Rattle.draw_run.proofs.diagram.diagram.diagram_of.Goals as goal

pub shown_window-window-requires-clause-changes : goal.shown_window-window-requires-clause-changes
shown_window-window-requires-clause-changes g c =
    let line = c.args.compiled.now.line.now in
    let horizon = c.args.compiled.now.line.now.horizon in
    let script = c.args.script.now in
    let pairs = g.H.Shown.pairs c.args.shown.now in
    subst (λ (rows : List Row). All (ChangesBelow horizon) rows) (sym c.as_slice.ensures.value)
    (All-weaker (IsMarkedRow line script pairs c.args.steps.now c.args.which) (ChangesBelow horizon)
    (row_below line script pairs c.args.steps.now c.args.which)
    c.in_ok-rows.rows.items c.in_ok-rows.ensures.rows)

pub returns-clause-diagram : goal.returns-clause-diagram
returns-clause-diagram g c = record {
  traces = c.in_ok-rows.ensures.traces;
  rows = c.in_ok-rows.ensures.rows;
  trips = c.in_ok-trips.ensures;
  inception = c.inception-inception.ensures.first;
  deadline = c.deadline-deadline.ensures;
  some = c.shown_window-window.ensures.some;
  within = c.shown_window-window.ensures.within;
  shown =
      subst (λ (rows : List Row). All (IsShown c.shown_window-window.result) rows)
      c.as_slice.ensures.value c.shown_window-window.ensures.rows;
  marked = c.shown_window-window.ensures.inception;
  due = c.shown_window-window.ensures.deadline;
}
