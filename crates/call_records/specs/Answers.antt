-- What may be answered over all that was read: how the call ends, and its text on out.
use Rattle.std.specs.Prelude.{◌≡◌, ◌⊎◌, ◌<◌, ◌∷◌, ℕ, List, [], Result, Ok, Err, map, length, Some, slice_get}
use Rattle.model_line.specs.declared.line.Line.{Line}
use Rattle.file_comtrade.specs.declared.record.RecordFault.{RecordFault}
use Rattle.file_records.specs.map.Maps.{MapValues}
use Rattle.file_records.specs.tracks.Tracks.{AreTracks, FailsAt, PlacedValues, TrackValues, placed_from}
use Rattle.file_tables.specs.script.ReadBack.{SaysScripts}
use Rattle.file_records.specs.tracks.Rows.{sources_text}
use Rattle.file_records.specs.recorded.Scripts.{HasNoScript}
use Rattle.file_records.specs.declared.recorded.script.NoScript.{NoScript}
use Rattle.file_records.specs.{recorded.Changes.record_text, recorded.Spans.script_told, recorded.Spans.spans_told}
use Rattle.call_records.specs.{Faults.script_refusal, Halts.End, Request.Asked}
use Rattle.call_records.specs.Lines.{IsLine, Refusal}
use Rattle.call_records.specs.Parts.{RecordParts, RecorderFiles, SectionRefusal, bytes_in, parts_from}
use Rattle.call_records.specs.{RecordFaults.record_refusal, SectionFaults.refused_section}
use Rattle.call_ask.specs.declared.records.RecordsWork.{RecordsWork as Work}
use Rattle.call_ask.specs.declared.records.RecordsWork.TheVariants as work
use Rattle.call_records.specs.declared.halt.Halt.TheVariants as halt

abbrev pub Answers : Type 1
Answers = End → List ℕ → Type 0

-- a file is refused so
abbrev pub IsRefusal : Refusal → End → Type 0
IsRefusal refusal (Ok _) = ⊥
IsRefusal refusal (Err (halt.Refused line)) = IsLine refusal line.items
IsRefusal refusal (Err (halt.Store file)) = ⊥
IsRefusal refusal (Err halt.Sink) = ⊥
IsRefusal refusal (Err halt.Memory) = ⊥

abbrev pub refuses : Refusal → Answers
refuses refusal end text = IsRefusal refusal end × (text ≡ [])

-- it is done, with such a text
abbrev pub says : (List ℕ → Type 0) → Answers
says IsText end text = (end ≡ Ok tt) × IsText text

-- the sources of the map, each with the files that it is read from
abbrev pub placed_of : Line → MapValues → List RecordParts → List PlacedValues
placed_of line m records = placed_from line 0 m.recorders (map bytes_in records)

-- the source at a place, and why it is refused
pub record IsSourceRefusal (asked : Asked) (placed : List PlacedValues) (records : List RecordParts)
    (place : ℕ) (why : RecordFault) (told : Refusal) : Type 0 where
  pub source : PlacedValues
  pub there : slice_get placed place ≡ Some source
  pub own : RecordParts
  pub its : slice_get records source.recorder ≡ Some own
  pub is : told ≡ record_refusal asked own source.source.channel why

-- what holds of what the sources tell, or of the refusal of the first that tells nothing
abbrev pub over_tracks : Asked → Line → MapValues → List RecordParts → (Refusal → Type 0)
    → (List TrackValues → Type 0) → Type 0
over_tracks asked line m records refused holds =
    ((tracks : List TrackValues) × AreTracks (placed_of line m records) tracks × holds tracks)
    ⊎ ((place : ℕ) × (why : RecordFault) × (told : Refusal)
    × FailsAt (placed_of line m records) place why
    × IsSourceRefusal asked (placed_of line m records) records place why told × refused told)

-- a file that says the one script of the tracks, or a refusal where it has more than 200 spans, or none
abbrev pub says_script : Asked → Line → MapValues → List TrackValues → Answers
says_script asked line m tracks end text =
    ((why : NoScript) × HasNoScript (spans_told line tracks) why
    × refuses (script_refusal asked.name asked.bytes why) end text)
    ⊎ ((0 < length (spans_told line tracks))
    × says (SaysScripts line (script_told line m tracks ∷ [])) end text)

abbrev pub said_by : Work → Asked → Line → MapValues → List PlacedValues → List TrackValues → Answers
said_by work.Scripts asked line m placed tracks = says_script asked line m tracks
said_by work.Record asked line m placed tracks =
    says (λ text. text ≡ record_text m.script line tracks)
said_by work.Show asked line m placed tracks =
    says (λ text. text ≡ sources_text line m.recorders placed tracks)

abbrev pub over_work : Asked → Line → MapValues → List PlacedValues → List TrackValues → Answers
over_work asked = said_by asked.work asked

-- over the records of all recorders, or a refusal of the first that has not its sections
abbrev pub over_records : Asked → Line → MapValues → Result (List RecordParts) SectionRefusal
    → Answers
over_records asked line m (Err refused) end text = refuses (refused_section refused) end text
over_records asked line m (Ok records) end text =
    over_tracks asked line m records (λ told. refuses told end text)
    (λ tracks. over_work asked line m (placed_of line m records) tracks end text)

abbrev pub answer_of : Asked → Line → MapValues → List RecorderFiles → Answers
answer_of asked line m files = over_records asked line m (parts_from files [])
