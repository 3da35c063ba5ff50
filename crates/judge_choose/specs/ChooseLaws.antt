-- What a held cover says, each law under the name of the function that ensures it.
use Rattle.std.specs.Prelude.{◌≡◌, ◌≤◌, ◌<◌, ℕ, IsTrue}
use Rattle.model_line.specs.{declared.line.Line.Line, declared.script.Script.Script, Fits.Fits}
use Rattle.model_line.specs.Parameters.{declared_ends, param_count, terminal_count}
use Rattle.model_history.specs.Rails.{Ends}
use Rattle.model_logic.specs.Choice.{Choice, IsWithin, declared_box}
use Rattle.model_logic.specs.{Boxes.IsSameBox, Boxes.box_of, HeldOver.IsHeldOver}
use Rattle.model_logic.specs.Histories.{History, IsLineHistory, Meets}
use Rattle.model_fine.specs.Fine.{EachFineChoiceMeets}
use Rattle.judge_choose.specs.declared.setting.Setting.{Setting}
use Rattle.judge_choose.specs.Positions.{IsSetting, cover_box, moves, position_box, stretched}

-- an interval for each parameter: of one that moves any interval, of whatever width, between the
-- least end at the first position and the greatest end at the last one; of another what is declared
pub record AreInside (line : Line) (setting : Setting) (first last : ℕ) (ends : ℕ → Ends)
    : Type 0 where
  pub moved : (i : ℕ) → i < param_count line → IsTrue (moves setting i)
      → (first ≤ (ends i).least)
      × ((ends i).greatest ≤ (stretched (declared_ends line i) first last).greatest)
  pub others : (i : ℕ) → i < param_count line → ¬ (IsTrue (moves setting i))
      → ends i ≡ declared_ends line i

-- where an obligation is held over a cover, it is held with every interval inside it
abbrev pub EveryIntervalInsideACoverIsHeld : Type 0
EveryIntervalInsideACoverIsHeld =
    (line : Line) (script : Script) (k : ℕ) (setting : Setting) (first last : ℕ) (ends : ℕ → Ends)
    → Fits line script → k < terminal_count line → IsSetting line setting
    → IsHeldOver line script k (cover_box line setting first last)
    → AreInside line setting first last ends → IsHeldOver line script k (box_of line ends)

-- and every history of every choice within it meets the obligation
abbrev pub AHeldCoverIsMet : Type 0
AHeldCoverIsMet =
    (line : Line) (script : Script) (k : ℕ) (setting : Setting) (first last : ℕ)
    → Fits line script → k < terminal_count line → IsSetting line setting
    → IsHeldOver line script k (cover_box line setting first last)
    → (choice : Choice) (h : History) → IsWithin line choice (cover_box line setting first last)
    → IsLineHistory line script choice h → Meets line script k h

-- and so does every one of fractions of a tick
abbrev pub AHeldCoverIsMetBetweenTicks : Type 0
AHeldCoverIsMetBetweenTicks =
    (line : Line) (script : Script) (k : ℕ) (setting : Setting) (first last : ℕ)
    → Fits line script → k < terminal_count line → IsSetting line setting
    → IsHeldOver line script k (cover_box line setting first last)
    → EachFineChoiceMeets line script k (cover_box line setting first last)

-- at the declared position the line is as declared
abbrev pub TheDeclaredPositionIsTheDeclaredBox : Type 0
TheDeclaredPositionIsTheDeclaredBox =
    (line : Line) (setting : Setting) → IsSetting line setting
    → IsSameBox line (position_box line setting setting.declared) (declared_box line)
