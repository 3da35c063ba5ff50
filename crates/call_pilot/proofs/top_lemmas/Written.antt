-- What a call answers once its command wrote its text.
use Rattle.std.proofs.Common.{◌≡◌, [], IfOk, Result, Ok, Err, refl, inr}
use Rattle.call_answer.specs.Answers.{Answers, Says, WritesAnswer}
use Rattle.call_answer.specs.{Sinks.SinkView, Sinks.Writes, declared.done.Done.Done}
use Rattle.call_answer.specs.declared.done.Done.TheVariants as done
use Rattle.base_text.specs.declared.store.sink.PutFailed.{PutFailed}
use Rattle.base_memory.specs.declared.stopped.Stopped.{Stopped}
use Rattle.base_memory.specs.declared.stopped.Stopped.TheVariants as stopped
use Rattle.call_answer.specs.declared.said.Said.{Said}
use Rattle.call_pilot.specs.top.CallAnswers.{done_with}
use Rattle.call_pilot.specs.top.Ends.{Works}
use Rattle.call_files.specs.Status.{IsDone, ended, status_of_done}

-- the statuses of commands that are done
is_done : (d : Done) → IsDone (status_of_done d)
is_done done.Good = tt
is_done done.SomeNo = tt
is_done done.SomeUndecided = tt
is_done done.Rejected = tt

module _ {K : Type 0} (view : K → SinkView) (allowed : Answers) (old new : K) where
  -- an answer that is written, or a front of it
  pub works_of_written : (r : Result Done (Stopped PutFailed))
      → WritesAnswer allowed (view old) (view new) r
      → Works view (done_with allowed) old new (ended r)
  works_of_written (Ok d) w =
      rw w.gives (is_done w.status, w.text, (w.status, refl, w.is, refl), w.writes)
  works_of_written (Err (stopped.Fault failed)) w =
      let p = w.writes.sink failed refl in (
        p.0,
        status_of_done w.status,
        w.text,
        [],
        (w.status, refl, w.is, refl),
        p.1,
      )
  works_of_written (Err stopped.Memory) w =
      let p = w.writes.memory refl in (
        p.0,
        inr (status_of_done w.status, w.text, [], (w.status, refl, w.is, refl), p.1),
      )

  -- what is said, and then put
  pub works_of_said : (said : Said) (r : Result Done (Stopped PutFailed)) → Says allowed said
      → IfOk r (λ s. s ≡ said.status) → Writes (view old) (view new) said.text.items r
      → Works view (done_with allowed) old new (ended r)
  works_of_said said r says gives writes = works_of_written r (record {
    status = said.status;
    text = said.text.items;
    is = says;
    writes = writes;
    gives = gives;
  })
