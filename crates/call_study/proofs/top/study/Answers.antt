use Rattle.std.proofs.Common.{◌≡◌, Ok, Err, refl}
use Rattle.call_answer.specs.Sinks.{sink_view}
use Rattle.call_work.specs.load.Fetched.{bytes_at}
use Rattle.call_work.specs.load.Request.{files_beside, files_of, request_of}
use Rattle.call_study.specs.{Answers.answer_over, Clauses.TellsBytes}
use Rattle.call_study.proofs.Closing.{closed, seen, unwritten}
use Rattle.call_study.proofs.Fetching.{ends_answered, ends_unread, short_further}
use Rattle.call_study.proofs.Telling.{ends_told, has_told, tells_unread, tells_wider}
use Rattle.call_study.proofs.top.study.Goals as goal

pub answer_told-requires : goal.answer_told-requires
answer_told-requires g c =
    let request = request_of c.args.ask.now in
    short_further (g.S.Store.held c.args.store.now) (files_beside request.asked)
    c.in-Ok.fetched.further.items c.in-Ok.ensures.files.1.further

pub returns-in-Ok-clause-clauses : goal.returns-in-Ok-clause-clauses
returns-in-Ok-clause-clauses g c =
    let out = sink_view g.O.Sink.written g.O.Sink.faults in
    let err = sink_view g.E.Sink.written g.E.Sink.faults in
    let request = request_of c.args.ask.now in
    let held = g.S.Store.held c.args.store.now in
    let old = g.S.Store.faults c.args.store.now in
    let new = g.S.Store.faults c.fetch_files.new.store in
    let why = g.S.Reasoned.why c.fetch_files.new.store in
    let fetched = c.in-Ok.fetched in
    let (same, are) = c.in-Ok.ensures.files in
    let end = c.answer_told.result in
    let e1 = err c.args.err.now in
    let e2 = err c.answer_told.new.err in
    let o1 = c.args.out.now in
    let o2 = c.answer_told.new.out in
    closed out o1 o2 held old new request why e1 e2 end
    (ends_answered held out o1 o2 old new request fetched same are end c.answer_told.ensures.answered)
    (tells_wider request (λ file bytes. bytes ≡ bytes_at fetched file)
    (TellsBytes (seen out o1 o2 held old new request why e1 e2)) (has_told held request fetched are)
    why end e1 e2 (rw c.reason.ensures at c.answer_told.ensures.told))

pub returns-in-Ok-clause-unwritten : goal.returns-in-Ok-clause-unwritten
returns-in-Ok-clause-unwritten g c =
    let out = sink_view g.O.Sink.written g.O.Sink.faults in
    let request = request_of c.args.ask.now in
    let held = g.S.Store.held c.args.store.now in
    let old = g.S.Store.faults c.args.store.now in
    let new = g.S.Store.faults c.fetch_files.new.store in
    let (same, are) = c.in-Ok.ensures.files in
    unwritten out c.args.out.now c.answer_told.new.out held old new request c.answer_told.result
    (ends_answered held out c.args.out.now c.answer_told.new.out old new request c.in-Ok.fetched same
    are c.answer_told.result c.answer_told.ensures.answered)

pub returns-in-Err-clause-clauses : goal.returns-in-Err-clause-clauses
returns-in-Err-clause-clauses g c =
    let out = sink_view g.O.Sink.written g.O.Sink.faults in
    let err = sink_view g.E.Sink.written g.E.Sink.faults in
    let request = request_of c.args.ask.now in
    let held = g.S.Store.held c.args.store.now in
    let old = g.S.Store.faults c.args.store.now in
    let new = g.S.Store.faults c.fetch_files.new.store in
    let why = g.S.Reasoned.why c.fetch_files.new.store in
    let unread = c.in-Err.unread in
    let end = c.tell.result in
    let by = rw c.from.ensures at c.tell.ensures.end in
    let e1 = err c.args.err.now in
    let e2 = err c.tell.new.err in
    let o = c.args.out.now in
    closed out o o held old new request why e1 e2 (Err end)
    (ends_told out (answer_over request) held (files_of request) old new o o unread end
    (ends_unread held out o o old new request unread c.in-Err.ensures.files refl) by)
    (tells_unread request (λ file bytes. bytes ≡ bytes_at c.nothing-none.result file)
    (TellsBytes (seen out o o held old new request why e1 e2)) why unread end e1 e2 by
    (rw c.reason-reason.ensures at c.tell.ensures.told))
