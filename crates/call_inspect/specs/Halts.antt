-- How a call ends: the exit status, and the line that says it.
use Rattle.std.specs.Prelude.{◌∷◌, ⊤, ℕ, List, [], Result, Ok, Err, get_or}
use Rattle.std.specs.List.{concat}
use Rattle.base_files.specs.declared.reason.Reason.{Reason}
use Rattle.call_refused.specs.told.Unread.{out_of_memory, unread_line}
use Rattle.call_answer.specs.declared.done.Done.{Done}
use Rattle.call_answer.specs.declared.done.Done.TheVariants as done
use Rattle.call_inspect.specs.declared.halt.Halt.{Halt}
use Rattle.call_inspect.specs.declared.halt.Halt.TheVariants as halt

-- it is done, or why not
abbrev pub End : Type 0
End = Result Done Halt

abbrev pub halt_status : Halt → ℕ
halt_status (halt.Unread i) = 6
halt_status halt.Sink = 7
halt_status halt.Memory = 8

-- the exit status
abbrev pub status_of : End → ℕ
status_of (Ok done.Good) = 0
status_of (Ok done.SomeNo) = 1
status_of (Ok done.SomeUndecided) = 2
status_of (Ok done.Rejected) = 3
status_of (Err why) = halt_status why

-- the line of a halt, with the reason of the store's latest fault; of out, which has no name here, who
-- owns it tells why it takes no more
abbrev pub halt_line : List (List ℕ) → Reason → Halt → List ℕ
halt_line names reason (halt.Unread i) = unread_line (get_or names i []) reason
halt_line names reason halt.Sink = []
halt_line names reason halt.Memory = concat (out_of_memory ∷ [])

-- the line on err: none where it is done
abbrev pub line_of : List (List ℕ) → Reason → End → List ℕ
line_of names reason (Ok done) = []
line_of names reason (Err why) = halt_line names reason why

-- nothing is put on out: it is not done, for another cause than that out takes no more
abbrev pub IsEarly : End → Type 0
IsEarly (Ok _) = ⊥
IsEarly (Err halt.Sink) = ⊥
IsEarly (Err why) = ⊤

abbrev pub IsDone : End → Type 0
IsDone (Ok _) = ⊤
IsDone (Err why) = ⊥
