use Rattle.std.proofs.Common.{Ok, Err}
use Rattle.call_answer.specs.{SinkLaws.grew_none, Sinks.sink_view}
use Rattle.call_study.specs.Answers.{answer_in}
use Rattle.call_work.specs.load.Request.{request_of}
use Rattle.call_study.proofs.Telling.{answered_told}
use Rattle.call_study.proofs.top.answer_told.Goals as goal

pub returns-in-Ok-clause-told : goal.returns-in-Ok-clause-told
returns-in-Ok-clause-told g c =
    grew_none (sink_view g.E.Sink.written g.E.Sink.faults c.args.err.now)

pub returns-in-Err-clause-answered : goal.returns-in-Err-clause-answered
returns-in-Err-clause-answered g c =
    answered_told (sink_view g.O.Sink.written g.O.Sink.faults)
    (answer_in (request_of c.args.ask.now) c.args.fetched.now) c.args.out.now c.answer.new.out
    c.in-Err.halt c.tell.result c.in-Err.ensures c.tell.ensures.end
