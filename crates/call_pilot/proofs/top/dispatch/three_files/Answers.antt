use Rattle.std.proofs.Common.{List}
use Rattle.std.proofs.lemmas.Result.{err_from_is_err_and}
use Rattle.model_line.specs.{declared.line.Line.Line, declared.script.Script.Script}
use Rattle.judge_match.specs.matching.Waves.{records_said}
use Rattle.call_pilot.specs.{commands.Check.check_answer, commands.Recheck.recheck_answer}
use Rattle.call_answer.specs.Sinks.{sink_view}
use Rattle.call_pilot.specs.{top.Call.answer_by, top.Call.asks_by, top.Reading.third_file}
use Rattle.call_pilot.specs.declared.top.words.ThreeFiles.TheVariants as three
use Rattle.call_pilot.proofs.top_lemmas.Reading.{asks_of_record, no_memory, study_read, study_stops}
use Rattle.call_pilot.proofs.top_lemmas.Reading.{works_of_study}
use Rattle.call_pilot.proofs.{top_lemmas.Results.if_ok, top_lemmas.Results.on_ok, top_lemmas.Written.works_of_said}
use Rattle.call_pilot.proofs.top.dispatch.three_files.Goals as goal

pub returns-in_err-study-clause-works : goal.returns-in_err-study-clause-works
returns-in_err-study-clause-works g c =
    let p = err_from_is_err_and c.from_residual.result c.from_residual.ensures.1 in
    rw (p.1, p.2) (study_stops (sink_view g.O.Sink.written g.O.Sink.faults) c.args.line.now
    c.args.scripts.now
    (λ (l : Line) (scripts : List Script).
    answer_by (third_file c.args.work c.args.third.now l scripts))
    c.args.out.now c.in_err-study.field-0.0 c.in_err-study.ensures)

pub returns-in-Play-clause-asked : goal.returns-in-Play-clause-asked
returns-in-Play-clause-asked g c =
    let study = c.in_ok-study.study in
    rw c.in-Play.is (on_ok c.play_timings.result
    (λ a. study_read c.args.line.now c.args.scripts.now study _
    (λ (l : Line) (scripts : List Script).
    asks_by (third_file three.Play c.args.third.now l scripts)
    (g.G.Engine.calls c.args.engine.now) (g.G.Engine.calls c.play_timings.new.engine))
    c.in_ok-study.ensures.0 c.in_ok-study.ensures.1 a)
    c.play_timings.ensures.asked)

pub returns-in-Play-clause-works : goal.returns-in-Play-clause-works
returns-in-Play-clause-works g c =
    let study = c.in_ok-study.study in
    rw c.in-Play.is (works_of_study (sink_view g.O.Sink.written g.O.Sink.faults)
    c.args.line.now c.args.scripts.now
    (λ (l : Line) (scripts : List Script).
    answer_by (third_file three.Play c.args.third.now l scripts)) study
    c.args.out.now c.play_timings.new.out c.play_timings.result
    c.in_ok-study.ensures.0 c.in_ok-study.ensures.1 c.play_timings.ensures.works)

pub returns-in_err-said-in-Check-clause-works : goal.returns-in_err-said-in-Check-clause-works
returns-in_err-said-in-Check-clause-works g c =
    let p = err_from_is_err_and c.from_residual-in_err-said-in-Check.result
    c.from_residual-in_err-said-in-Check.ensures.1 in
    rw (p.1, p.2) (no_memory (sink_view g.O.Sink.written g.O.Sink.faults) _ c.args.out.now)

pub returns-in-Check-clause-asked : goal.returns-in-Check-clause-asked
returns-in-Check-clause-asked g c =
    let study = c.in_ok-study.study in
    rw c.in-Check.is (if_ok c.ended.result
    (study_read c.args.line.now c.args.scripts.now study _
    (λ (l : Line) (scripts : List Script).
    asks_by (third_file three.Check c.args.third.now l scripts)
    (g.G.Engine.calls c.args.engine.now) (g.G.Engine.calls c.check.new.engine))
    c.in_ok-study.ensures.0 c.in_ok-study.ensures.1 c.in_ok-said-in-Check.ensures.asked))

pub returns-in-Check-clause-works : goal.returns-in-Check-clause-works
returns-in-Check-clause-works g c =
    let view = sink_view g.O.Sink.written g.O.Sink.faults in
    let study = c.in_ok-study.study in
    let allowed = check_answer study.line study.scripts.items c.args.third.now in
    rw c.in-Check.is (works_of_study view c.args.line.now c.args.scripts.now
    (λ (l : Line) (scripts : List Script).
    answer_by (third_file three.Check c.args.third.now l scripts)) study
    c.args.out.now c.put_said.new.out c.ended.result
    c.in_ok-study.ensures.0 c.in_ok-study.ensures.1
    (rw c.ended.ensures (works_of_said view allowed c.args.out.now c.put_said.new.out
    c.in_ok-said-in-Check.said c.put_said.result c.in_ok-said-in-Check.ensures.said
    c.put_said.ensures.status c.put_said.ensures.text)))

pub returns-in-Match-clause-asked : goal.returns-in-Match-clause-asked
returns-in-Match-clause-asked g c =
    let study = c.in_ok-study.study in
    let calls = g.G.Engine.calls c.args.engine.now in
    rw c.in-Match.is (if_ok c.match_record.result
    (study_read c.args.line.now c.args.scripts.now study _
    (λ (l : Line) (scripts : List Script).
    asks_by (third_file three.Match c.args.third.now l scripts) calls calls)
    c.in_ok-study.ensures.0 c.in_ok-study.ensures.1
    (asks_of_record (records_said study.line study.scripts.items c.args.third.now))))

pub returns-in-Match-clause-works : goal.returns-in-Match-clause-works
returns-in-Match-clause-works g c =
    let study = c.in_ok-study.study in
    rw c.in-Match.is (works_of_study (sink_view g.O.Sink.written g.O.Sink.faults)
    c.args.line.now c.args.scripts.now
    (λ (l : Line) (scripts : List Script).
    answer_by (third_file three.Match c.args.third.now l scripts)) study
    c.args.out.now c.match_record.new.out c.match_record.result
    c.in_ok-study.ensures.0 c.in_ok-study.ensures.1 c.match_record.ensures)

pub returns-in_err-said-in-Recheck-clause-works : goal.returns-in_err-said-in-Recheck-clause-works
returns-in_err-said-in-Recheck-clause-works g c =
    let p = err_from_is_err_and c.from_residual-in_err-said-in-Recheck.result
    c.from_residual-in_err-said-in-Recheck.ensures.1 in
    rw (p.1, p.2) (no_memory (sink_view g.O.Sink.written g.O.Sink.faults) _ c.args.out.now)

pub returns-clause-asked : goal.returns-clause-asked
returns-clause-asked g c =
    let study = c.in_ok-study.study in
    let calls = g.G.Engine.calls c.args.engine.now in
    rw c.in-Recheck.is (if_ok c.ended-in-Recheck.result
    (study_read c.args.line.now c.args.scripts.now study _
    (λ (l : Line) (scripts : List Script).
    asks_by (third_file three.Recheck c.args.third.now l scripts) calls calls)
    c.in_ok-study.ensures.0 c.in_ok-study.ensures.1 tt))

pub returns-clause-works : goal.returns-clause-works
returns-clause-works g c =
    let view = sink_view g.O.Sink.written g.O.Sink.faults in
    let study = c.in_ok-study.study in
    let allowed = recheck_answer study.line study.scripts.items c.args.third.now in
    rw c.in-Recheck.is (works_of_study view c.args.line.now c.args.scripts.now
    (λ (l : Line) (scripts : List Script).
    answer_by (third_file three.Recheck c.args.third.now l scripts)) study
    c.args.out.now c.put_said-in-Recheck.new.out c.ended-in-Recheck.result
    c.in_ok-study.ensures.0 c.in_ok-study.ensures.1
    (rw c.ended-in-Recheck.ensures (works_of_said view allowed c.args.out.now
    c.put_said-in-Recheck.new.out c.in_ok-said-in-Recheck.said c.put_said-in-Recheck.result
    c.in_ok-said-in-Recheck.ensures c.put_said-in-Recheck.ensures.status
    c.put_said-in-Recheck.ensures.text)))
