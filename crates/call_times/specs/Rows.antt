-- The records of a fault at a terminal.
use Rattle.std.specs.Prelude.{◌++◌, ℕ, List, [], ◌∷◌, codes}
use Rattle.csv.specs.Writing.{row_text, default_writer}
use Rattle.base_text.specs.lines.Milliseconds.{ticks_text}
use Rattle.model_line.specs.declared.line.Line.{Line}
use Rattle.model_line.specs.NamesByNumber.{kind_text, terminal_name}
use Rattle.file_borders.specs.declared.loose.LooseFault.{LooseFault}
use Rattle.judge_times.specs.declared.stretch.{Along.Along, Stretch.Stretch}
use Rattle.judge_times.specs.declared.stretch.Along.TheVariants.{Held, Fails, Open}

abbrev pub times_header : List (List ℕ)
times_header =
    codes "fault" ∷ codes "terminal" ∷ codes "kind" ∷ codes "from_ms" ∷ codes "to_ms" ∷ codes "answer"
    ∷ codes "place_ms" ∷ []

abbrev pub along_text : Along → List ℕ
along_text Held = codes "held"
along_text Fails = codes "fails"
along_text Open = codes "open"

-- times in milliseconds, the first behind this, the others behind `/`
abbrev pub joined_text : List ℕ → ℕ → List ℕ → List ℕ
joined_text before tick_us [] = []
joined_text before tick_us (t ∷ more) =
    (before ++ ticks_text tick_us t) ++ joined_text (codes "/") tick_us more

-- a place, where something fails
abbrev pub place_text : ℕ → List ℕ → Along → List ℕ
place_text tick_us place Held = []
place_text tick_us place Fails = joined_text [] tick_us place
place_text tick_us place Open = []

-- the fields of a stretch
unfoldable pub stretch_record : Line → LooseFault → ℕ → Stretch → List (List ℕ)
stretch_record line loose k one =
    loose.script.name ∷ terminal_name line k ∷ kind_text loose.kind ∷ ticks_text line.tick_us one.from
    ∷ ticks_text line.tick_us one.to ∷ along_text one.told
    ∷ place_text line.tick_us one.place.items one.told ∷ []

abbrev pub stretch_rows : Line → LooseFault → ℕ → List Stretch → List ℕ
stretch_rows line loose k [] = []
stretch_rows line loose k (one ∷ more) =
    row_text default_writer (stretch_record line loose k one) ++ stretch_rows line loose k more
