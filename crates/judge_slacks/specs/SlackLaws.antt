-- What an end that is moved inward says, each law under the name of the function that ensures it.
use Rattle.std.specs.Prelude.{◌≤◌, ◌<◌, ℕ, IsTrue}
use Rattle.model_history.specs.Rails.{Ends}
use Rattle.model_line.specs.{declared.line.Line.Line, declared.script.Script.Script, Fits.Fits}
use Rattle.model_line.specs.Parameters.{is_delay, param_count, terminal_count}
use Rattle.model_logic.specs.Choice.{declared_box}
use Rattle.model_logic.specs.{Boxes.declared_with, HeldOver.IsHeldOver, Choice.IsIn}
use Rattle.model_settle.specs.Schemes.{IsOneRailedBy, end_for, setting_at}
use Rattle.model_settle.specs.{Sides.number_at, Worst.deciding}
use Rattle.judge_margins.specs.declared.margins.end.Side.{Side}
use Rattle.judge_slacks.specs.{Inward.CanMoveIn, Needs.IsHeldIn}

-- where each trip of the line is one-railed, an obligation reads one end of each number: held with one
-- interval of it, it is held with each other one whose end that it reads lies in the first
abbrev pub AnObligationReadsOneEnd : Type 0
AnObligationReadsOneEnd =
    (line : Line) (script : Script) (k param : ℕ) (known new : Ends) → Fits line script
    → k < terminal_count line → param < param_count line → IsOneRailedBy line.scheme line
    → ¬ (IsTrue (is_delay line param)) → new.least ≤ new.greatest
    → IsIn (number_at (end_for (deciding script.kind) (setting_at line param)) new) known
    → IsHeldOver line script k (declared_with line param known)
    → IsHeldOver line script k (declared_with line param new)

-- what is not held today, and is held with an end moved inward, is held with it moved further
abbrev pub WhatIsHeldIsHeldFurtherIn : Type 0
WhatIsHeldIsHeldFurtherIn =
    (line : Line) (script : Script) (k param : ℕ) (side : Side) (m n : ℕ) → Fits line script
    → k < terminal_count line → param < param_count line → m ≤ n → CanMoveIn line param side n
    → ¬ (IsHeldOver line script k (declared_box line)) → IsHeldIn line script k param side m
    → IsHeldIn line script k param side n
