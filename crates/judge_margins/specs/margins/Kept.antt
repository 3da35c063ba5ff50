-- Whether obligations are held over a box, and the first that is not.
use Rattle.std.specs.Prelude.{◌≡◌, ◌<◌, ℕ, List, Some, length, slice_get}
use Rattle.model_line.specs.{declared.line.Line.Line, declared.script.Script.Script}
use Rattle.model_line.specs.Parameters.{terminal_count}
use Rattle.model_logic.specs.{Choice.Box, HeldOver.IsHeldOver}
use Rattle.judge_report.specs.declared.upper_end.Lost.{Lost}

-- a script of the list at a terminal of the line
pub record IsObligation (line : Line) (scripts : List Script) (o : Lost) : Type 0 where
  pub script : o.script < length scripts
  pub terminal : o.terminal < terminal_count line

-- so is each of the list
abbrev pub AreObligations : Line → List Script → List Lost → Type 0
AreObligations line scripts obligations =
    (i : ℕ) (o : Lost) → slice_get obligations i ≡ Some o → IsObligation line scripts o

-- the rule of an obligation is held over a box
pub record IsKept (line : Line) (scripts : List Script) (box : Box) (o : Lost) : Type 0 where
  pub held : (script : Script) → slice_get scripts o.script ≡ Some script
      → IsHeldOver line script o.terminal box

-- so are those of the first n obligations of the list
pub record AreKept (line : Line) (scripts : List Script) (box : Box) (obligations : List Lost)
    (n : ℕ) : Type 0 where
  pub each : (i : ℕ) (o : Lost) → i < n → slice_get obligations i ≡ Some o
      → IsKept line scripts box o

-- the first of the list that is not held
pub record IsFirstLost (line : Line) (scripts : List Script) (box : Box) (obligations : List Lost)
    (n : ℕ) (o : Lost) : Type 0 where
  pub place : ℕ
  pub within : place < n
  pub at : slice_get obligations place ≡ Some o
  pub lost : ¬ (IsKept line scripts box o)
  pub before : AreKept line scripts box obligations place
