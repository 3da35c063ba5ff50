-- The exit status of each end of a call.
use Rattle.std.specs.Prelude.{Result, Ok, Err, ⊤}
use Rattle.call_answer.specs.declared.done.Done.{Done}
use Rattle.call_answer.specs.declared.done.Done.TheVariants as done
use Rattle.base_text.specs.declared.store.sink.PutFailed.{PutFailed}
use Rattle.base_memory.specs.declared.stopped.Stopped.{Stopped}
use Rattle.base_memory.specs.declared.stopped.Stopped.TheVariants as stopped
use Rattle.call_files.specs.declared.stop.Status.{Status}
use Rattle.call_files.specs.declared.stop.Status.TheVariants as status
use Rattle.call_files.specs.declared.stop.Stop.{Stop}
use Rattle.call_files.specs.declared.stop.Stop.TheVariants as stop

-- a command is done
abbrev pub status_of_done : Done → Status
status_of_done done.Good = status.Good
status_of_done done.SomeNo = status.SomeNo
status_of_done done.SomeUndecided = status.SomeUndecided
status_of_done done.Rejected = status.Rejected

-- the writing of a command's text stopped
abbrev pub stop_of_write : Stopped PutFailed → Stop
stop_of_write (stopped.Fault failed) = stop.Sink
stop_of_write stopped.Memory = stop.Memory

-- a command ended, with its text written or not
abbrev pub ended : Result Done (Stopped PutFailed) → Result Status Stop
ended (Ok d) = Ok (status_of_done d)
ended (Err why) = Err (stop_of_write why)

abbrev pub stop_status : Stop → Status
stop_status stop.Usage = status.Usage
stop_status (stop.Refused why) = status.BadInput
stop_status (stop.Store file) = status.StoreFault
stop_status stop.Sink = status.SinkFault
stop_status stop.Memory = status.Memory

abbrev pub status_of : Result Status Stop → Status
status_of (Ok s) = s
status_of (Err why) = stop_status why

-- 0 to 3: the command's work is done
abbrev pub IsDone : Status → Type 0
IsDone status.Good = ⊤
IsDone status.SomeNo = ⊤
IsDone status.SomeUndecided = ⊤
IsDone status.Rejected = ⊤
IsDone status.Usage = ⊥
IsDone status.BadInput = ⊥
IsDone status.StoreFault = ⊥
IsDone status.SinkFault = ⊥
IsDone status.Memory = ⊥

-- 0 to 5: the words and files alone decide
abbrev pub IsAnswer : Status → Type 0
IsAnswer status.StoreFault = ⊥
IsAnswer status.SinkFault = ⊥
IsAnswer status.Memory = ⊥
IsAnswer s = ⊤

-- 4 to 6: the call stopped before its work
abbrev pub IsEarly : Status → Type 0
IsEarly status.Usage = ⊤
IsEarly status.BadInput = ⊤
IsEarly status.StoreFault = ⊤
IsEarly s = ⊥
