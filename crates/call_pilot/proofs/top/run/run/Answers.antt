use Rattle.call_pilot.specs.{top.Call.answer_by, top.Reading.over_files, top.Words.bench}
use Rattle.call_answer.specs.Sinks.{sink_view}
use Rattle.call_pilot.proofs.{top_lemmas.Fetching.ends_of_works, top_lemmas.Results.on_ok}
use Rattle.call_pilot.proofs.top.run.run.Goals as goal
use Rattle.std.proofs.Common.{refl}

pub returns-in-OneFile-clause-asked : goal.returns-in-OneFile-clause-asked
returns-in-OneFile-clause-asked g c = rw c.in-OneFile.is (on_ok c.run_one.result
    (λ a. a (g.G.Engine.calls c.args.engine.now)) c.run_one.ensures.asked)

pub returns-in-Bench-clause-asked : goal.returns-in-Bench-clause-asked
returns-in-Bench-clause-asked g c = rw c.in-Bench.is (on_ok c.no_file.result
    (λ asked told. asked) c.no_file.ensures.asked)

pub returns-in-Bench-clause-ends : goal.returns-in-Bench-clause-ends
returns-in-Bench-clause-ends g c = rw c.in-Bench.is (ends_of_works
    (sink_view g.O.Sink.written g.O.Sink.faults)
    (λ bytes. answer_by (over_files (bench c.in-Bench.size.scripts) bytes))
    (g.S.Store.held c.args.store.now) c.args.out.now c.no_file.new.out
    (g.S.Store.faults c.args.store.now) (g.S.Store.faults c.args.store.now) c.no_file.result
    (λ name. refl) c.no_file.ensures.works)
