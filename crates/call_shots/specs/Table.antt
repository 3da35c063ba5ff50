-- The table of shots: what is expected of each relay.
use Rattle.std.specs.Prelude.{ℕ, List, [], ◌∷◌, map, codes, decimal, get_or}
use Rattle.std.specs.List.{flat_map}
use Rattle.csv.specs.Writing.{row_text, default_writer}
use Rattle.base_text.specs.lines.Milliseconds.{ticks_text}
use Rattle.model_line.specs.{declared.line.Line.Line, declared.script.Script.Script}
use Rattle.model_line.specs.declared.script.Kind.{Kind}
use Rattle.model_line.specs.declared.script.Kind.TheVariants.{Internal, External}
use Rattle.model_line.specs.NamesByNumber.{kind_text, script_name, terminal_name}
use Rattle.file_study.specs.declared.sweeps.group.Group.{Group}
use Rattle.file_study.specs.sweeps.Places.{place_in}
use Rattle.call_verdicts.specs.Records.{answer_word, fails_for, fault_name, number_text, swept_text}
use Rattle.call_verdicts.specs.Records.{trip_text}
use Rattle.call_shots.specs.declared.rows.Row.{Row}

-- the deadline of an internal fault; nothing of an external one, which has none
abbrev pub deadline_text : ℕ → Kind → ℕ → List ℕ
deadline_text tick_us Internal deadline = ticks_text tick_us deadline
deadline_text tick_us External deadline = []

abbrev pub shots_header : List (List ℕ)
shots_header =
    codes "shot" ∷ codes "fault" ∷ codes "at" ∷ codes "kind" ∷ codes "deadline_ms"
    ∷ codes "obligation" ∷ codes "fails_for" ∷ codes "place" ∷ codes "script" ∷ codes "swept_ms"
    ∷ codes "terminal" ∷ codes "key_from_ms" ∷ codes "key_by_ms" ∷ codes "trip_from_ms"
    ∷ codes "trip_by_ms" ∷ []

-- The fields of a row: the number of the shot, counted from 1, whose obligation it is and how that is
-- answered, the script that is played, and when the relay of this terminal may key and trip, and by
-- when it has, whatever its times are; nothing where it never may, or need not.
unfoldable pub shot_record : Line → List Script → List Group → Row → List (List ℕ)
shot_record line scripts groups r =
    decimal r.number ∷ fault_name (place_in groups r.found.script)
    ∷ terminal_name line r.found.terminal
    ∷ get_or (map (λ s. kind_text s.kind) scripts) r.found.script []
    ∷ get_or (map (λ s. deadline_text line.tick_us s.kind s.deadline) scripts) r.found.script []
    ∷ answer_word r.found.standing ∷ fails_for r.found.standing
    ∷ number_text (place_in groups r.found.script) ∷ script_name scripts r.found.script
    ∷ swept_text line.tick_us (place_in groups r.found.script) ∷ terminal_name line r.terminal
    ∷ trip_text line.tick_us r.window.key_may ∷ trip_text line.tick_us r.window.key_must
    ∷ trip_text line.tick_us r.window.trip_may ∷ trip_text line.tick_us r.window.trip_must ∷ []

-- the header, and a record for each row
abbrev pub shots_text : Line → List Script → List Group → List Row → List ℕ
shots_text line scripts groups rows =
    flat_map (row_text default_writer) (shots_header ∷ map (shot_record line scripts groups) rows)
