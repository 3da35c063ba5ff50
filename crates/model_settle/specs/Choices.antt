-- A choice of the numbers of a line that fails an obligation, and one that meets it.
use Rattle.std.specs.Prelude.{ℕ}
use Rattle.model_line.specs.{declared.line.Line.Line, declared.script.Script.Script}
use Rattle.model_logic.specs.Choice.{Choice, IsInside}
use Rattle.model_logic.specs.Histories.{History, IsLineHistory, Meets}

-- some choice inside the declared intervals, its delays moving, fails it
pub record SomeChoiceFails (line : Line) (script : Script) (k : ℕ) : Type 0 where
  pub choice : Choice
  pub inside : IsInside line choice
  pub history : History
  pub is : IsLineHistory line script choice history
  pub fails : ¬ (Meets line script k history)

-- some choice inside them, its delays moving, meets it
pub record SomeChoiceMeets (line : Line) (script : Script) (k : ℕ) : Type 0 where
  pub choice : Choice
  pub inside : IsInside line choice
  pub history : History
  pub is : IsLineHistory line script choice history
  pub meets : Meets line script k history
