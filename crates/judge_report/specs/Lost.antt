-- Whether the rules of all obligations are held over a box, and the first that is not.
use Rattle.std.specs.Prelude.{◌≡◌, ◌<◌, ℕ, List, Some, Option, MatchOption, slice_get}
use Rattle.model_line.specs.{declared.line.Line.Line, declared.script.Script.Script}
use Rattle.model_line.specs.Parameters.{terminal_count}
use Rattle.model_logic.specs.{Choice.Box, HeldOver.IsHeldOver}
use Rattle.judge_report.specs.declared.upper_end.Lost.{Lost}

-- the rule of a script is held at each of the first n terminals
pub record IsScriptHeld (line : Line) (script : Script) (box : Box) (n : ℕ) : Type 0 where
  pub held : (k : ℕ) → k < n → IsHeldOver line script k box

-- the rules of the first n scripts are held at every terminal
pub record AreHeld (line : Line) (scripts : List Script) (box : Box) (n : ℕ) : Type 0 where
  pub held : (s : ℕ) (script : Script) → s < n → slice_get scripts s ≡ Some script
      → IsScriptHeld line script box (terminal_count line)

-- the rule of every script is held at every terminal
pub record AllHeld (line : Line) (scripts : List Script) (box : Box) : Type 0 where
  pub held : (s : ℕ) (script : Script) → slice_get scripts s ≡ Some script
      → IsScriptHeld line script box (terminal_count line)

-- the first terminal at which the rule of a script is not held
pub record IsFirstTerminal (line : Line) (script : Script) (box : Box) (k : ℕ) : Type 0 where
  pub exists : k < terminal_count line
  pub lost : ¬ (IsHeldOver line script k box)
  pub before : IsScriptHeld line script box k

-- the first obligation that is not held: by script, and then by terminal
pub record IsFirstLost (line : Line) (scripts : List Script) (box : Box) (lost : Lost)
    : Type 0 where
  pub script : Script
  pub at : slice_get scripts lost.script ≡ Some script
  pub terminal : IsFirstTerminal line script box lost.terminal
  pub before : AreHeld line scripts box lost.script

-- all are held, or this is the first that is not
abbrev pub IsLoss : Line → List Script → Box → Option Lost → Type 0
IsLoss line scripts box lost =
    MatchOption lost (AllHeld line scripts box) (λ l. IsFirstLost line scripts box l)
