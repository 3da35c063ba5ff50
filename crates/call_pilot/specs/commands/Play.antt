-- The command `play`: its text has the header, and then the rows of each timing over each script.
use Rattle.std.specs.Prelude.{◌≡◌, ◌∷◌, ◌++◌, ◌*◌, ℕ, List, [], codes, length}
use Rattle.call_engine.specs.Calls.{AskedPlays}
use Rattle.model_line.specs.{declared.script.Script.Script, declared.line.Line.Line}
use Rattle.model_logic.specs.Histories.{History, IsLineHistory}
use Rattle.run_changes.specs.rows.PlayRows.{run_rows}
use Rattle.model_timing.specs.{Choice.timing_choice}
use Rattle.model_timing.specs.NamedValues.{NamedValues}
use Rattle.call_pilot.specs.commands.Asked.{Asks}
use Rattle.call_answer.specs.{Answers.Answers, Answers.prints}

abbrev pub play_header : List ℕ
play_header = codes "timing,script,tick,terminal,signal,level\n"

-- a text of one piece after another: a piece for each element of a list, in its order
abbrev pub Pieces : {X : Type 0} → (X → List ℕ → Type 0) → List X → List ℕ → Type 0
Pieces IsPiece [] text = text ≡ []
Pieces IsPiece (x ∷ rest) text =
    (piece : List ℕ) × (more : List ℕ)
    × IsPiece x piece × Pieces IsPiece rest more × (text ≡ piece ++ more)

-- the text of one timing and one script: the rows of the line's history under the script at the
-- timing's choice of delays
pub record IsRunText (line : Line) (timing : NamedValues) (script : Script) (text : List ℕ)
    : Type 0 where
  pub history : History
  pub is_history : IsLineHistory line script (timing_choice line timing.timing) history
  pub text_is : text ≡ run_rows timing.name script.name line history

-- the text of one timing: each script in order
abbrev pub IsTimingText : Line → List Script → NamedValues → List ℕ → Type 0
IsTimingText line scripts timing = Pieces (IsRunText line timing) scripts

-- the header, and then each timing in order
pub record IsPlayText (line : Line) (scripts : List Script) (timings : List NamedValues)
    (text : List ℕ) : Type 0 where
  pub rows : List ℕ
  pub are_rows : Pieces (IsTimingText line scripts) timings rows
  pub text_is : text ≡ play_header ++ rows

abbrev pub play_answer : Line → List Script → List NamedValues → Answers
play_answer line scripts timings = prints (IsPlayText line scripts timings)

-- the engine is asked for the rows of each timing and script
abbrev pub play_asks : Line → List Script → List NamedValues → Asks
play_asks line scripts timings = AskedPlays line (length timings * length scripts)
