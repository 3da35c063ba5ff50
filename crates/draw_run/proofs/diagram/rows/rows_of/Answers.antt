use Rattle.std.proofs.Common.{◌∷◌, ◌++◌, [], List, get_or, map, take, subst, sym, ◌∙◌, ap}
use Rattle.std.proofs.lemmas.List.{map-append, take_more}
use Rattle.std.proofs.lemmas.List.Elements.{All-push}
use Rattle.std.specs.List.{All}
use Rattle.draw_run.specs.declared.diagram.trace.Trace.TheVariants.{Seen}
use Rattle.draw_run.specs.{declared.diagram.trace.Trace.Trace, diagram.Diagrams.IsMarkedRow, diagram.Diagrams.trace_of}
use Rattle.model_line.specs.declared.script.Element.TheVariants.{Z1}
use Rattle.draw_run.proofs.diagram.rows.rows_of.Goals as goal

pub loop-trace-preserved : goal.loop-trace-preserved
loop-trace-preserved g c =
    let script = c.args.script.now in
    let pairs = g.H.Shown.pairs c.args.shown.now in
    let is_row = IsMarkedRow c.args.line.now script pairs c.args.steps.now c.args.which in
    let none : Trace = Seen (record { element = Z1; terminal = 0 }) in
    let trace : Trace = get_or c.args.traces.now c.loop-trace.trace-index none in
    record {
      traces =
          ap (map trace_of) c.in_ok-push.ensures.items
          ∙ map-append trace_of c.loop-trace.all.items _
          ∙ ap (λ (l : List Trace). l ++ trace_of c.in_ok-row_of.field-0 ∷ []) c.loop-trace.invariant.traces
          ∙ ap (λ (x : Trace). take c.loop-trace.trace-index c.args.traces.now ++ x ∷ []) c.in_ok-row_of.ensures.trace
          ∙ sym (take_more c.args.traces.now c.loop-trace.trace-index none c.loop-trace-test.true);
      rows =
          subst (All is_row) (sym c.in_ok-push.ensures.items)
          (All-push is_row c.loop-trace.all.items _ c.loop-trace.invariant.rows
          c.in_ok-row_of.ensures.row);
    }
