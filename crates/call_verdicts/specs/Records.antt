-- The table of verdicts with a record for each script and terminal.
use Rattle.std.specs.Prelude.{◌+◌, ◌-◌, ◌++◌, ℕ, List, [], ◌∷◌, Option, None, Some, map}
use Rattle.std.specs.Prelude.{codes, decimal, get_or, nat_le, if◌then◌else◌}
use Rattle.std.specs.List.{flat_map}
use Rattle.csv.specs.Writing.{row_text, default_writer}
use Rattle.model_line.specs.{declared.line.Line.Line, declared.script.Script.Script}
use Rattle.model_line.specs.declared.script.Kind.{Kind}
use Rattle.model_line.specs.declared.script.Kind.TheVariants.{Internal, External}
use Rattle.model_line.specs.NamesByNumber.{kind_text, script_name, terminal_name}
use Rattle.file_study.specs.declared.sweeps.group.Group.{Group}
use Rattle.judge_settle.specs.settle.Words.{by_word, choices_word}
use Rattle.base_text.specs.lines.Milliseconds.{ticks_text}
use Rattle.file_study.specs.sweeps.Places.{PlaceValues, place_in}
use Rattle.call_verdicts.specs.declared.finding.{Finding.Finding, Standing.Standing}
use Rattle.call_verdicts.specs.declared.finding.Standing.TheVariants.{Held, Fails, Open}

abbrev pub answer_word : Standing → List ℕ
answer_word Held = codes "held"
answer_word (Fails every) = codes "fails"
answer_word Open = codes "open"

-- for which choices it fails
abbrev pub fails_for : Standing → List ℕ
fails_for Held = []
fails_for (Fails every) = choices_word every
fails_for Open = []

-- times with `/` between them
abbrev pub times_text : ℕ → List ℕ → List ℕ
times_text tick_us [] = []
times_text tick_us (t ∷ more) =
    ticks_text tick_us t ++ flat_map (λ u. 47 ∷ ticks_text tick_us u) more

-- of a place: the fault's name, the place counted from 1, and the values of the swept times
abbrev pub fault_name : Option PlaceValues → List ℕ
fault_name None = []
fault_name (Some p) = p.group.name

abbrev pub number_text : Option PlaceValues → List ℕ
number_text None = []
number_text (Some p) = decimal (p.at + 1)

abbrev pub swept_text : ℕ → Option PlaceValues → List ℕ
swept_text tick_us None = []
swept_text tick_us (Some p) =
    times_text tick_us (get_or (map (λ v. v.items) p.group.swept.items) p.at [])

-- when the trip must have come; nothing where it need not come
abbrev pub trip_text : ℕ → Option ℕ → List ℕ
trip_text tick_us None = []
trip_text tick_us (Some first) = ticks_text tick_us first

-- the deadline less that, below 0 where it is late; nothing where there are not both
abbrev pub margin_text : ℕ → Kind → ℕ → Option ℕ → List ℕ
margin_text tick_us Internal deadline None = []
margin_text tick_us Internal deadline (Some first) =
    if nat_le first deadline then ticks_text tick_us (deadline - first)
    else 45 ∷ ticks_text tick_us (first - deadline)
margin_text tick_us External deadline first = []

abbrev pub header_record : List (List ℕ)
header_record =
    codes "fault" ∷ codes "place" ∷ codes "script" ∷ codes "terminal" ∷ codes "kind"
    ∷ codes "answer" ∷ codes "fails_for" ∷ codes "by" ∷ codes "swept_ms" ∷ codes "trip_ms" ∷ codes "margin_ms" ∷ []

-- the fields of a finding
unfoldable pub finding_record : Line → List Script → List Group → Finding → List (List ℕ)
finding_record line scripts groups f =
    fault_name (place_in groups f.script) ∷ number_text (place_in groups f.script)
    ∷ script_name scripts f.script ∷ terminal_name line f.terminal
    ∷ get_or (map (λ s. kind_text s.kind) scripts) f.script [] ∷ answer_word f.standing
    ∷ fails_for f.standing ∷ by_word f.by ∷ swept_text line.tick_us (place_in groups f.script)
    ∷ trip_text line.tick_us f.first_must
    ∷ get_or (map (λ s. margin_text line.tick_us s.kind s.deadline f.first_must) scripts) f.script []
    ∷ []

-- the header, and a record for each finding
abbrev pub verdicts_text : Line → List Script → List Group → List Finding → List ℕ
verdicts_text line scripts groups found =
    flat_map (row_text default_writer)
    (header_record ∷ map (finding_record line scripts groups) found)
