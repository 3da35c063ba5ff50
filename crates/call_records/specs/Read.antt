-- What the readers of the call answer.
use Rattle.std.specs.Prelude.{◌≡◌, ◌⊎◌, ℕ, List, [], Vec, Option, None, Some, Result, Ok, Err, option_map}
use Rattle.std.specs.Prelude.{slice_get, ⊤}
use Rattle.std.specs.declared.alloc.Global.{Global}
use Rattle.file_comtrade.specs.declared.record.RecordFault.{RecordFault}
use Rattle.file_records.specs.tracks.Tracks.{PlacedValues}
use Rattle.call_records.specs.RecordFaults.{record_refusal}
use Rattle.call_records.specs.{Answers.Answers}
use Rattle.call_records.specs.Parts.{NamedText, Part, RecordParts, RecorderFiles, files_with, named}
use Rattle.call_records.specs.{Halts.Refuses, Lines.Refusal, Request.Asked}
use Rattle.call_records.specs.declared.fetch as code
use Rattle.call_records.specs.declared.parts as part_code
use Rattle.call_records.specs.declared.halt.Halt.{Halt}
use Rattle.call_records.specs.declared.halt.Halt.TheVariants as halt

abbrev pub IsMemory : Halt → Type 0
IsMemory (halt.Refused line) = ⊥
IsMemory (halt.Store file) = ⊥
IsMemory halt.Sink = ⊥
IsMemory halt.Memory = ⊤

-- a fault of a reader, as it is told
pub record Stops {Y F : Type 0} (told : F → Refusal) (said : Result Y F) (why : Halt) : Type 0 where
  pub fault : F
  pub fails : said ≡ Err fault
  pub tells : Refuses (told fault) why

-- a value that is what reading gives, or such a fault; want of memory says nothing
abbrev pub Reads : {X Y F : Type 0} → (X → Y) → (F → Refusal) → Result Y F → Result X Halt → Type 0
Reads view told said (Ok x) = said ≡ Ok (view x)
Reads view told said (Err why) = Stops told said why ⊎ IsMemory why

-- a source is refused by the parts of its recorder's record, or memory ran out
abbrev pub TellsOf : Asked → Option RecordParts → PlacedValues → RecordFault → Halt → Type 0
TellsOf asked None source why stop = IsMemory stop
TellsOf asked (Some own) source why stop =
    Refuses (record_refusal asked own source.source.channel why) stop

-- so is the source at a place, where there is one
abbrev pub TellsAt : Asked → Option PlacedValues → List RecordParts → RecordFault → Halt → Type 0
TellsAt asked None records why stop = IsMemory stop
TellsAt asked (Some source) records why stop =
    TellsOf asked (slice_get records source.recorder) source why stop

-- a text with its answer, or why there is none
abbrev pub Gives : Answers → Result (Vec ℕ Global) Halt → Type 0
Gives allowed (Ok text) = allowed (Ok tt) text.items
Gives allowed (Err (halt.Refused line)) = allowed (Err (halt.Refused line)) []
Gives allowed (Err (halt.Store file)) = ⊥
Gives allowed (Err halt.Sink) = ⊥
Gives allowed (Err halt.Memory) = ⊤

-- the files of a recorder, as the code holds them
abbrev pub named_text : code.NamedBytes.NamedBytes → NamedText
named_text f = named f.name.items f.bytes.items

abbrev pub files_values : code.RecorderFiles.RecorderFiles → RecorderFiles
files_values f = files_with (named_text f.config) (option_map named_text f.samples)

-- a part of a record, as the code sees it
abbrev pub part_values : part_code.Part.Part → Part
part_values p = record { name = p.name.now; bytes = p.bytes.now; line = p.line }

abbrev pub record_values : part_code.RecordParts.RecordParts → RecordParts
record_values p = record { config = part_values p.config; samples = part_values p.samples }

-- a text as its bytes
abbrev pub text_seen : Result (Vec ℕ Global) Halt → Result (List ℕ) Halt
text_seen (Ok v) = Ok v.items
text_seen (Err why) = Err why

-- a file of a recorder as its bytes
abbrev pub bytes_seen : Result code.NamedBytes.NamedBytes Halt → Result (List ℕ) Halt
bytes_seen (Ok f) = Ok f.bytes.items
bytes_seen (Err why) = Err why
