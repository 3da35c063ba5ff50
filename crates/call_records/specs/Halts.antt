-- How a call ends: the exit status, and the line that says it.
use Rattle.std.specs.Prelude.{◌∷◌, ℕ, List, [], Result, Ok, Err, codes, ⊤}
use Rattle.std.specs.List.{concat}
use Rattle.base_files.specs.declared.reason.Reason.{Reason}
use Rattle.call_refused.specs.told.Unread.{out_of_memory, unread_line}
use Rattle.call_records.specs.{Lines.IsLine, Lines.Refusal, Lines.exactly, Request.Request}
use Rattle.call_records.specs.declared.halt.{File.File, Halt.Halt}
use Rattle.call_records.specs.declared.halt.File.TheVariants as file
use Rattle.call_records.specs.declared.halt.Halt.TheVariants as halt

-- which file of the call it is: the line, the map, or that of a recorder of this name
abbrev pub told_of : File → List ℕ
told_of file.Line = codes "line"
told_of file.Map = codes "map"
told_of (file.Recorder name) = name.items

abbrev pub halt_status : Halt → ℕ
halt_status (halt.Refused line) = 5
halt_status (halt.Store file) = 6
halt_status halt.Sink = 7
halt_status halt.Memory = 8

-- the name of a file of the call
abbrev pub name_of : Request → File → List ℕ
name_of r file.Line = r.line
name_of r file.Map = r.map
name_of r (file.Recorder name) = name.items

-- of out, which has no name here, who owns it tells why it takes no more
abbrev pub halt_line : Request → Reason → Halt → List ℕ
halt_line r reason (halt.Refused line) = concat (line.items ∷ [])
halt_line r reason (halt.Store file) = unread_line (name_of r file) reason
halt_line r reason halt.Sink = []
halt_line r reason halt.Memory = concat (out_of_memory ∷ [])

-- what is asked for is done, or why not
abbrev pub End : Type 0
End = Result (Unit {0}) Halt

-- the exit status
abbrev pub status_of : End → ℕ
status_of (Ok _) = 0
status_of (Err why) = halt_status why

-- the line on err, with the reason of the store's latest fault: none where it is done
abbrev pub line_of : Request → Reason → End → List ℕ
line_of r reason (Ok _) = []
line_of r reason (Err why) = halt_line r reason why

-- the files alone decide: it is done, or a file is refused
abbrev pub IsAnswer : End → Type 0
IsAnswer (Ok _) = ⊤
IsAnswer (Err (halt.Refused line)) = ⊤
IsAnswer (Err (halt.Store file)) = ⊥
IsAnswer (Err halt.Sink) = ⊥
IsAnswer (Err halt.Memory) = ⊥

-- nothing is put on out: it is not done, for another cause than that out takes no more
abbrev pub IsEarly : End → Type 0
IsEarly (Ok _) = ⊥
IsEarly (Err halt.Sink) = ⊥
IsEarly (Err why) = ⊤

abbrev pub IsDone : End → Type 0
IsDone (Ok _) = ⊤
IsDone (Err why) = ⊥

-- a file is refused so, or memory ran out
abbrev pub Refuses : Refusal → Halt → Type 0
Refuses refusal (halt.Refused line) = IsLine refusal line.items
Refuses refusal (halt.Store file) = ⊥
Refuses refusal halt.Sink = ⊥
Refuses refusal halt.Memory = ⊤

-- with exactly this line
abbrev pub Tells : List ℕ → Halt → Type 0
Tells line = Refuses (exactly line)
