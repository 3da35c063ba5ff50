-- An obligation that can be searched.
use Rattle.std.specs.Prelude.{◌<◌, ℕ}
use Rattle.model_line.specs.{declared.line.Line.Line, declared.script.Script.Script}
use Rattle.model_line.specs.{Fits.Fits, Parameters.terminal_count}

-- the script fits, and the terminal is one of the line's
pub record CanSearch (line : Line) (script : Script) (k : ℕ) : Type 0 where
  pub fits : Fits line script
  pub terminal : k < terminal_count line
