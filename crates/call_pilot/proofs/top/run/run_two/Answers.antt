use Rattle.call_pilot.specs.{top.Call.answer_by, top.Call.asks_by, top.CommandView.two_files_view}
use Rattle.call_pilot.specs.{top.Reading.over_files, top.Words.two_files}
use Rattle.call_files.specs.Files.{named}
use Rattle.call_answer.specs.Sinks.{sink_view}
use Rattle.call_files.specs.declared.stop.File.TheVariants as file
use Rattle.call_pilot.proofs.{top_lemmas.Fetching.ends_of_two, top_lemmas.Fetching.told_two, top_lemmas.Results.on_ok}
use Rattle.call_pilot.proofs.top.run.run_two.Goals as goal

pub returns-clause-asked : goal.returns-clause-asked
returns-clause-asked g c =
    let command = two_files (two_files_view c.args.work) c.args.line.now c.args.scripts.now in
    let one = c.in_ok-line.ensures.file in
    let two = c.in_ok-scripts.ensures.file in
    let asked =
    rw (c.as_slice.ensures.value, c.as_slice-2.ensures.value) at c.two_files.ensures.asked in
    on_ok c.two_files.result
    (told_two (g.S.Store.held c.args.store.now)
    (λ bytes. asks_by (over_files command bytes) (g.G.Engine.calls c.args.engine.now)
    (g.G.Engine.calls c.two_files.new.engine))
    (named file.Line c.args.line.now) (named file.Scripts c.args.scripts.now)
    c.in_ok-line.line.items c.in_ok-scripts.scripts.items
    (record { short = one.1; is = one.2 })
    (record { short = two.1; is = rw c.in_ok-line.ensures.held at two.2 }))
    asked

pub returns-clause-ends : goal.returns-clause-ends
returns-clause-ends g c =
    let command = two_files (two_files_view c.args.work) c.args.line.now c.args.scripts.now in
    let one = c.in_ok-line.ensures.file in
    let two = c.in_ok-scripts.ensures.file in
    let works =
    rw (c.as_slice.ensures.value, c.as_slice-2.ensures.value) at c.two_files.ensures.works in
    ends_of_two (sink_view g.O.Sink.written g.O.Sink.faults) (g.S.Store.held c.args.store.now)
    c.args.out.now c.two_files.new.out (λ bytes. answer_by (over_files command bytes))
    (named file.Line c.args.line.now) (named file.Scripts c.args.scripts.now)
    c.in_ok-line.line.items c.in_ok-scripts.scripts.items
    (record { short = one.1; is = one.2 })
    (record { short = two.1; is = rw c.in_ok-line.ensures.held at two.2 })
    _ _ _ c.two_files.result one.0 two.0 works
