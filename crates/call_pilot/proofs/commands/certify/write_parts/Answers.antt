use Rattle.std.proofs.Common.{refl, sym}
use Rattle.std.proofs.lemmas.Result.{err_from_is_err_and}
use Rattle.call_answer.specs.Sinks.{sink_view}
use Rattle.call_pilot.proofs.commands_lemmas.Counts.{grew_nothing, grew_once, none_fell_both, none_fell_same}
use Rattle.call_pilot.proofs.commands_lemmas.Parts.{parts_more, parts_none, parts_stop}
use Rattle.call_pilot.proofs.commands.certify.write_parts.Goals as goal

pub loop-script-preserved : goal.loop-script-preserved
loop-script-preserved g c = (
  grew_once _ _ _ c.loop-script.script-index c.loop-script.invariant.0
      c.in_ok-more.ensures.asked,
  parts_more c.args.compiled.now.line.now c.args.scripts.now c.loop-script.script-index
      c.script-item.result
      c.loop-script-test.true (sym c.script-item.is)
      (sink_view g.O.Sink.written g.O.Sink.faults c.args.out.now)
      (sink_view g.O.Sink.written g.O.Sink.faults c.loop-script.out)
      (sink_view g.O.Sink.written g.O.Sink.faults c.write_part.new.out)
      c.loop-script.found c.in_ok-more.more c.and-found.result c.and-found.ensures.no c.and-found.ensures.undecided
      c.loop-script.invariant.1 c.in_ok-more.ensures.writes,
  none_fell_both _ _ _ c.loop-script.invariant.2 c.in_ok-more.ensures.kept,
)

pub returns-in_err-more-clause-writes : goal.returns-in_err-more-clause-writes
returns-in_err-more-clause-writes g c =
    let p = err_from_is_err_and c.from_residual.result c.from_residual.ensures.1 in
    rw (p.1, p.2) (parts_stop c.args.compiled.now.line.now c.args.scripts.now
    c.loop-script.script-index
    c.script-item.result c.loop-script-test.true (sym c.script-item.is)
    (sink_view g.O.Sink.written g.O.Sink.faults c.args.out.now)
    (sink_view g.O.Sink.written g.O.Sink.faults c.loop-script.out)
    (sink_view g.O.Sink.written g.O.Sink.faults c.write_part.new.out)
    c.loop-script.found c.in_err-more.field-0.0
    (c.a_certificate_is_made_of_parts.ensures.scripts c.args.compiled.now.line.now) c.requires.fit
    c.loop-script.invariant.1 c.in_err-more.ensures.writes)

pub loop-script-init : goal.loop-script-init
loop-script-init g c = (
  grew_nothing _ 0 refl,
  parts_none c.args.compiled.now.line.now
      (sink_view g.O.Sink.written g.O.Sink.faults c.args.out.now) _ refl
      refl,
  none_fell_same (g.G.Engine.calls c.args.engine.now),
)

pub returns-in_err-more-clause-kept : goal.returns-in_err-more-clause-kept
returns-in_err-more-clause-kept g c =
    none_fell_both _ _ _ c.loop-script.invariant.2 c.in_err-more.ensures.kept
