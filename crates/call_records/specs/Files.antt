-- What a store tells of the files of a course.
use Rattle.std.specs.Prelude.{◌≡◌, ◌⊎◌, ◌<◌, ◌≤◌, ℕ, List, [], Option, Some, IfSome, Result, Ok, Err}
use Rattle.std.specs.Prelude.{length, nat_lt, cond, ⊤}
use Rattle.base_text.specs.{store.Counts.Rose, store.Store.SameCounts}
use Rattle.model_line.specs.declared.line.Line.{Line}
use Rattle.file_line.specs.Lines.{line_values}
use Rattle.call_records.specs.{Answers.Answers, Answers.answer_of, Answers.refuses, Halts.told_of}
use Rattle.call_records.specs.Course.{Course, NamedFile, makes, over, reads, refused}
use Rattle.call_records.specs.{Faults.too_long, Lines.IsLine}
use Rattle.call_records.specs.declared.halt.Halt.{Halt}
use Rattle.call_records.specs.declared.halt.Halt.TheVariants as halt

-- the bytes under each name, where the store tells them
abbrev pub Held : Type 0
Held = List ℕ → Option (List ℕ)

-- the store tells each file that is read
abbrev pub AllTold : Held → Course → Type 0
AllTold files (refused refusal) = ⊤
AllTold files (over asked line map all) = ⊤
AllTold files (reads f next) =
    (bytes : List ℕ) × (files f.name ≡ Some bytes)
    × (length bytes ≤ f.limit → AllTold files (next bytes))
AllTold files (makes values next) = (line : Line) → line_values line ≡ values → AllTold files (next line)

-- what is answered by the bytes that the store tells; a file that is too long is refused
abbrev pub answers : Held → Course → Answers
answers files (refused refusal) end text = refuses refusal end text
answers files (over asked line map all) end text = answer_of asked line map all end text
answers files (reads f next) end text =
    (bytes : List ℕ) × (files f.name ≡ Some bytes)
    × cond (nat_lt f.limit (length bytes)) (refuses (too_long f.name) end text)
    (answers files (next bytes) end text)
answers files (makes values next) end text =
    (line : Line) × (line_values line ≡ values) × answers files (next line) end text

-- this file, told so, is the cause of a store fault: the count of its name rose, and no file before it
-- is longer than its limit
abbrev pub Cause : Held → (List ℕ → ℕ) → (List ℕ → ℕ) → Course → List ℕ → Type 0
Cause files old new (refused refusal) told = ⊥
Cause files old new (over asked line map all) told = ⊥
Cause files old new (reads f next) told =
    ((f.told ≡ told) × Rose (old f.name) (new f.name))
    ⊎ ((bytes : List ℕ) × IfSome (files f.name) (λ b. b ≡ bytes) × (length bytes ≤ f.limit)
    × Cause files old new (next bytes) told)
Cause files old new (makes values next) told =
    (line : Line) × (line_values line ≡ values) × Cause files old new (next line) told

-- the count of none of the files that are read rose
abbrev pub NoneRose : Held → (List ℕ → ℕ) → (List ℕ → ℕ) → Course → Type 0
NoneRose files old new (refused refusal) = ⊤
NoneRose files old new (over asked line map all) = ⊤
NoneRose files old new (reads f next) =
    (Rose (old f.name) (new f.name) → ⊥)
    × ((bytes : List ℕ) → IfSome (files f.name) (λ b. b ≡ bytes) → length bytes ≤ f.limit
    → NoneRose files old new (next bytes))
NoneRose files old new (makes values next) =
    (line : Line) → line_values line ≡ values → NoneRose files old new (next line)

-- the fetch of one file gives its bytes, or stops: it is too long, its name's count rose, or memory
-- ran out
abbrev pub Fetches : Held → (List ℕ → ℕ) → (List ℕ → ℕ) → NamedFile → Result (List ℕ) Halt → Type 0
Fetches files old new f (Ok bytes) =
    SameCounts old new × (length bytes ≤ f.limit) × IfSome (files f.name) (λ b. b ≡ bytes)
Fetches files old new f (Err (halt.Refused line)) =
    SameCounts old new × IsLine (too_long f.name) line.items
    × IfSome (files f.name) (λ b. f.limit < length b)
Fetches files old new f (Err (halt.Store file)) =
    (told_of file ≡ f.told) × Rose (old f.name) (new f.name)
Fetches files old new f (Err halt.Sink) = ⊥
Fetches files old new f (Err halt.Memory) = SameCounts old new

-- the text of a course, or why there is none
abbrev pub Runs : Held → (List ℕ → ℕ) → (List ℕ → ℕ) → Course → Result (List ℕ) Halt → Type 0
Runs files old new course (Ok text) =
    SameCounts old new × (AllTold files course → answers files course (Ok tt) text)
Runs files old new course (Err (halt.Refused line)) =
    SameCounts old new × (AllTold files course → answers files course (Err (halt.Refused line)) [])
Runs files old new course (Err (halt.Store file)) = Cause files old new course (told_of file)
Runs files old new course (Err halt.Sink) = ⊥
Runs files old new course (Err halt.Memory) = SameCounts old new

-- what is fetched leads from one course to the next, or stops
abbrev pub Leads : {A : Type 0} → Held → (List ℕ → ℕ) → (List ℕ → ℕ) → Course → (A → Course)
    → Result A Halt → Type 0
Leads files old new course next (Ok a) =
    (now : List ℕ → ℕ) (r : Result (List ℕ) Halt) → Runs files new now (next a) r
    → Runs files old now course r
Leads files old new course next (Err why) = Runs files old new course (Err why)
