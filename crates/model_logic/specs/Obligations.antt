-- An obligation, for every choice of delays.
use Rattle.std.specs.Prelude.{ℕ}
use Rattle.model_line.specs.{declared.line.Line.Line, declared.script.Script.Script}
use Rattle.model_logic.specs.Choice.{Choice, IsInside}
use Rattle.model_logic.specs.Histories.{History, IsLineHistory, Meets}

-- every history of every choice of delays inside the declared intervals meets the obligation of
-- terminal k: it trips by the deadline on an internal fault, and never on an external one
abbrev pub EveryChoiceMeets : Line → Script → ℕ → Type 0
EveryChoiceMeets line script k =
    (choice : Choice) (h : History) → IsInside line choice → IsLineHistory line script choice h
    → Meets line script k h
