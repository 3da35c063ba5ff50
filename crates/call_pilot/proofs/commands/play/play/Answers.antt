use Rattle.std.proofs.Common.{◌++◌, map, List, ℕ, Err, refl}
use Rattle.std.proofs.lemmas.List.{length-map}
use Rattle.std.proofs.lemmas.List.Elements.{All-map}
use Rattle.std.proofs.lemmas.Result.{err_from_is_err_and}
use Rattle.std.specs.List.{All}
use Rattle.model_line.specs.{declared.line.Line.Line, declared.script.Script.Script}
use Rattle.model_timing.specs.{Inside.IsTimingInside}
use Rattle.model_timing.specs.NamedValues.{NamedValues, values_of}
use Rattle.call_pilot.specs.commands.Play.{IsPlayText, IsTimingText, Pieces, play_answer, play_header}
use Rattle.call_answer.specs.{Answers.WritesAnswer, SinkLaws.grew_both}
use Rattle.call_answer.specs.Sinks.{SinkView, WriteStops, sink_view}
use Rattle.base_text.specs.declared.store.sink.PutFailed.{PutFailed}
use Rattle.base_memory.specs.declared.stopped.Stopped.{Stopped}
use Rattle.call_answer.specs.declared.done.Done.TheVariants.{Good}
use Rattle.call_pilot.proofs.commands_lemmas.Writing.{stops_more, stops_then}
use Rattle.call_pilot.proofs.commands.play.play.Goals as goal

-- there are rows of timings inside
rows_exist : {X : Type 0} (values : X → NamedValues) (line : Line) (scripts : List Script)
    (timings : List X)
    → ((given : List NamedValues) → All (λ v. IsTimingInside line v.timing) given
    → (text : List ℕ) × IsPlayText line scripts given text)
    → All (λ timing. IsTimingInside line (values timing).timing) timings
    → (rows : List ℕ) × Pieces (IsTimingText line scripts) (map values timings) rows
rows_exist values line scripts timings exists inside =
    let play = (exists (map values timings)
    (All-map (λ (v : NamedValues). IsTimingInside line v.timing) values timings inside)).1 in
    (play.rows, play.are_rows)

-- a play stops
play_stops : (line : Line) (scripts : List Script) (timings : List NamedValues) (rows : List ℕ)
    → Pieces (IsTimingText line scripts) timings rows → (old new : SinkView) (why : Stopped PutFailed)
    → WriteStops old new (play_header ++ rows) why
    → WritesAnswer (play_answer line scripts timings) old new (Err why)
play_stops line scripts timings rows are old new why stops = record {
  status = Good;
  text = play_header ++ rows;
  is = (refl, record { rows = rows; are_rows = are; text_is = refl });
  writes = stops;
  gives = tt;
}

-- the header stops
pub returns-in_err-put_text-clause-writes : goal.returns-in_err-put_text-clause-writes
returns-in_err-put_text-clause-writes g c =
    let p = err_from_is_err_and c.from_residual.result
    c.from_residual.ensures.1 in
    let line = c.args.study.now.line in
    let scripts = c.args.study.now.scripts.items in
    let (rows, are) = rows_exist values_of line scripts c.args.timings.now
    (c.each_play_has_one_text.ensures.exists line scripts) c.requires.inside in
    rw (p.1, p.2) (play_stops line scripts (map values_of c.args.timings.now) rows are
    (sink_view g.O.Sink.written g.O.Sink.faults c.args.out.now)
    (sink_view g.O.Sink.written g.O.Sink.faults c.put_text.new.out) c.in_err-put_text.field-0.0
    (stops_more rows c.in_err-put_text.ensures))

-- the rows stop
pub returns-in_err-write_timings-clause-writes : goal.returns-in_err-write_timings-clause-writes
returns-in_err-write_timings-clause-writes g c =
    let p = err_from_is_err_and c.from_residual-in_err-write_timings.result
    c.from_residual-in_err-write_timings.ensures.1 in
    let line = c.args.study.now.line in
    let scripts = c.args.study.now.scripts.items in
    let (rows, are) = rows_exist values_of line scripts c.args.timings.now
    (c.each_play_has_one_text.ensures.exists line scripts) c.requires.inside in
    let writes = rw c.as_slice-scripts.ensures.value at c.in_err-write_timings.ensures.writes in
    rw (p.1, p.2) (play_stops line scripts (map values_of c.args.timings.now) rows are
    (sink_view g.O.Sink.written g.O.Sink.faults c.args.out.now)
    (sink_view g.O.Sink.written g.O.Sink.faults c.write_timings.new.out)
    c.in_err-write_timings.field-0.0
    (stops_then c.in_ok-put_text.ensures (writes rows are)))

pub returns-clause-asked : goal.returns-clause-asked
returns-clause-asked g c =
    rw (length-map c.args.timings.now values_of)
    (rw c.as_slice-scripts.ensures.value at c.in_ok-write_timings.ensures.asked)

pub returns-clause-writes : goal.returns-clause-writes
returns-clause-writes g c =
    let line = c.args.study.now.line in
    let scripts = c.args.study.now.scripts.items in
    let (rows, are) = rows_exist values_of line scripts c.args.timings.now
    (c.each_play_has_one_text.ensures.exists line scripts) c.requires.inside in
    let writes = rw c.as_slice-scripts.ensures.value at c.in_ok-write_timings.ensures.writes in
    record {
      status = Good;
      text = play_header ++ rows;
      is = (refl, record { rows = rows; are_rows = are; text_is = refl });
      writes = grew_both c.in_ok-put_text.ensures (writes rows are);
      gives = refl;
    }
