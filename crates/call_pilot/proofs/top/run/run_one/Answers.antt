use Rattle.call_engine.specs.Calls.{Calls}
use Rattle.call_pilot.specs.top.Call.{answer_by, asks_by}
use Rattle.call_pilot.specs.{top.Reading.over_files, top.Words.one_file}
use Rattle.call_files.specs.Files.{named}
use Rattle.call_answer.specs.Sinks.{sink_view}
use Rattle.call_files.specs.declared.stop.File.TheVariants as file
use Rattle.call_pilot.proofs.{top_lemmas.Fetching.ends_of_one, top_lemmas.Fetching.told_one, top_lemmas.Results.on_ok}
use Rattle.call_pilot.proofs.top.run.run_one.Goals as goal

pub returns-clause-asked : goal.returns-clause-asked
returns-clause-asked g c =
    let fetched = c.in_ok-line.ensures.file in
    let asked = rw c.as_slice.ensures.value at c.one_file.ensures.asked in
    on_ok c.one_file.result
    (λ a (calls : Calls). told_one (g.S.Store.held c.args.store.now)
    (λ bytes. asks_by (over_files (one_file c.args.work c.args.line.now) bytes) calls calls)
    (named file.Line c.args.line.now) c.in_ok-line.line.items
    (record { short = fetched.1; is = fetched.2 }) (a calls))
    asked

pub returns-clause-ends : goal.returns-clause-ends
returns-clause-ends g c =
    let fetched = c.in_ok-line.ensures.file in
    ends_of_one (sink_view g.O.Sink.written g.O.Sink.faults) (g.S.Store.held c.args.store.now)
    c.args.out.now c.one_file.new.out
    (λ bytes. answer_by (over_files (one_file c.args.work c.args.line.now) bytes))
    (named file.Line c.args.line.now) c.in_ok-line.line.items
    (record { short = fetched.1; is = fetched.2 }) _ _ c.one_file.result fetched.0
    (rw c.as_slice.ensures.value at c.one_file.ensures.works)
