-- How a call ends: the exit status.
use Rattle.std.specs.Prelude.{ℕ, Result, Ok, Err}
use Rattle.call_answer.specs.declared.done.Done.{Done}
use Rattle.call_answer.specs.declared.done.Done.TheVariants as done
use Rattle.call_files.specs.declared.stop.Stop.TheVariants as stop
use Rattle.call_work.specs.load.Denials.{denial_status}
use Rattle.call_work.specs.declared.load.halt.Halt.{Halt}
use Rattle.call_work.specs.declared.load.halt.Halt.TheVariants as halt

-- that of `pilot`, or that of what is denied
abbrev pub halt_status : Halt → ℕ
halt_status (halt.Stopped stop.Usage) = 4
halt_status (halt.Stopped (stop.Refused why)) = 5
halt_status (halt.Stopped (stop.Store file)) = 6
halt_status (halt.Stopped stop.Sink) = 7
halt_status (halt.Stopped stop.Memory) = 8
halt_status (halt.Denied why) = denial_status why

-- what is asked for is done, or why not
abbrev pub End : Type 0
End = Result Done Halt

abbrev pub done_status : Done → ℕ
done_status done.Good = 0
done_status done.SomeNo = 1
done_status done.SomeUndecided = 2
done_status done.Rejected = 3

-- the exit status
abbrev pub status_of : End → ℕ
status_of (Ok d) = done_status d
status_of (Err why) = halt_status why

-- the words and files alone decide: it is done, a file is refused, or what they say is denied
abbrev pub IsAnswer : End → Type 0
IsAnswer (Err (halt.Stopped (stop.Store file))) = ⊥
IsAnswer (Err (halt.Stopped stop.Sink)) = ⊥
IsAnswer (Err (halt.Stopped stop.Memory)) = ⊥
IsAnswer end = Unit {0}

-- nothing is put on out: it is not done, for another cause than that out takes no more
abbrev pub IsEarly : End → Type 0
IsEarly (Ok _) = ⊥
IsEarly (Err (halt.Stopped stop.Sink)) = ⊥
IsEarly (Err why) = Unit {0}

abbrev pub IsDone : End → Type 0
IsDone (Ok _) = Unit {0}
IsDone (Err why) = ⊥
