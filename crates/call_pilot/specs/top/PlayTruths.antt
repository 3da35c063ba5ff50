-- What `play` has put, in words of choices and histories.
use Rattle.std.specs.Prelude.{◌≡◌, ◌++◌, ℕ, List, Ok}
use Rattle.std.specs.List.{All, flat_map}
use Rattle.model_line.specs.{declared.line.Line.Line, declared.script.Script.Script}
use Rattle.model_logic.specs.Histories.{History, IsLineHistory}
use Rattle.model_timing.specs.{Choice.timing_choice, Inside.IsTimingInside}
use Rattle.model_timing.specs.NamedValues.{NamedValues}
use Rattle.file_tables.specs.timing.Timings.{timings_of}
use Rattle.run_changes.specs.rows.PlayRows.{run_rows}
use Rattle.call_pilot.specs.commands.Play.{play_header}

-- for each timing inside the declared intervals and each script, the history of the timing's choice
-- of delays under the script; a line has exactly one
abbrev pub AreTheHistories : Line → (NamedValues → Script → History) → Type 0
AreTheHistories line histories =
    (timing : NamedValues) (script : Script) → IsTimingInside line timing.timing
    → IsLineHistory line script (timing_choice line timing.timing) (histories timing script)

-- the header, and then for each timing, and for each script in order, the rows of their history
abbrev pub rows_of_all : Line → List Script → List NamedValues → (NamedValues → Script → History)
    → List ℕ
rows_of_all line scripts timings histories =
    play_header ++ flat_map
    (λ timing. flat_map
    (λ script. run_rows timing.name script.name line (histories timing script)) scripts) timings

-- the bytes say timings inside the line's declared intervals; the text is the rows of all their
-- histories, and nothing else
pub record IsPlayTrue (line : Line) (scripts : List Script) (timings_bytes text : List ℕ)
    : Type 0 where
  pub timings : List NamedValues
  pub timings_are : timings_of line timings_bytes ≡ Ok timings
  pub inside : All (λ timing. IsTimingInside line timing.timing) timings
  pub rows : (histories : NamedValues → Script → History) → AreTheHistories line histories
      → text ≡ rows_of_all line scripts timings histories
