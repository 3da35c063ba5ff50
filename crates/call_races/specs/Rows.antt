-- The records of a fault at a terminal.
use Rattle.std.specs.Prelude.{◌+◌, ◌-◌, ◌++◌, ℕ, List, [], ◌∷◌, Option, None, Some, Vec, codes, decimal}
use Rattle.std.specs.declared.alloc.Global.{Global}
use Rattle.std.specs.List.{flat_map}
use Rattle.csv.specs.Writing.{row_text, default_writer}
use Rattle.base_text.specs.lines.Milliseconds.{ticks_text}
use Rattle.file_study.specs.declared.sweeps.group.Group.{Group}
use Rattle.model_line.specs.declared.line.Line.{Line}
use Rattle.model_line.specs.NamesByNumber.{terminal_name}
use Rattle.model_logic.specs.Tree.{Tree}
use Rattle.judge_races.specs.declared.races.Race.{Race}
use Rattle.judge_races.specs.declared.stretch.Stretch.{Stretch}
use Rattle.call_races.specs.Words.{marked_words}

abbrev pub races_header : List (List ℕ)
races_header =
    codes "fault" ∷ codes "terminal" ∷ codes "ends" ∷ codes "ends_ms" ∷ codes "begins"
    ∷ codes "begins_ms" ∷ codes "spare_ms" ∷ codes "place" ∷ []

-- a race has one tick less to spare than its operands lack
abbrev pub spare_of : Race → ℕ
spare_of race = race.lack - 1

-- the fields of a race of a conjunction with these operands: which have ended and when, which begin
-- and when, the time to spare, and the place of the script, counted from 1
unfoldable pub race_record : Line → Group → ℕ → List Tree → Race → List (List ℕ)
race_record line group k xs race =
    group.name ∷ terminal_name line k
    ∷ marked_words line [] race.ends.items xs ∷ ticks_text line.tick_us (race.tick - spare_of race)
    ∷ marked_words line [] race.begins.items xs ∷ ticks_text line.tick_us race.tick
    ∷ ticks_text line.tick_us (spare_of race) ∷ decimal (race.place + 1) ∷ []

-- those of a trip that may be set: what begins, when, and for how long it may be, with `-`
unfoldable pub trip_record : Line → Group → ℕ → List ℕ → ℕ → Stretch → List (List ℕ)
trip_record line group k begins place trip =
    group.name ∷ terminal_name line k ∷ [] ∷ [] ∷ begins ∷ ticks_text line.tick_us trip.from
    ∷ (45 ∷ ticks_text line.tick_us trip.ticks) ∷ decimal (place + 1) ∷ []

-- those where nothing races
unfoldable pub empty_record : Line → Group → ℕ → List (List ℕ)
empty_record line group k =
    group.name ∷ terminal_name line k ∷ [] ∷ [] ∷ [] ∷ [] ∷ [] ∷ [] ∷ []

abbrev pub races_rows : Line → Group → ℕ → List Tree → List Race → List ℕ
races_rows line group k xs races =
    flat_map (λ race. row_text default_writer (race_record line group k xs race)) races

-- the races of one conjunction after another, by their operands
abbrev pub each_rows : Line → Group → ℕ → List (List Tree) → List (Vec Race Global) → List ℕ
each_rows line group k [] all = []
each_rows line group k (xs ∷ each) [] = []
each_rows line group k (xs ∷ each) (races ∷ all) =
    races_rows line group k xs races.items ++ each_rows line group k each all

abbrev pub trip_rows : Line → Group → ℕ → List ℕ → ℕ → Option Stretch → List ℕ
trip_rows line group k begins place None = []
trip_rows line group k begins place (Some trip) =
    row_text default_writer (trip_record line group k begins place trip)

-- rows, or the empty record where there are none
abbrev pub rows_or_none : Line → Group → ℕ → List ℕ → List ℕ
rows_or_none line group k [] = row_text default_writer (empty_record line group k)
rows_or_none line group k (byte ∷ rows) = byte ∷ rows
