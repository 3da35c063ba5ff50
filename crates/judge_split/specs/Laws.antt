-- Laws of parts that proofs above cite, each under the name of the function that ensures it.
use Rattle.std.specs.Prelude.{◌<◌, ◌↔◌, ℕ}
use Rattle.model_line.specs.{declared.line.Line.Line, declared.script.Script.Script}
use Rattle.model_line.specs.SetBounds.{SameButParams}
use Rattle.model_logic.specs.Choice.{Box, declared_box}
use Rattle.model_logic.specs.HeldOver.{IsHeldOver}
use Rattle.judge_split.specs.{Parts.IsPart}
use Rattle.model_logic.specs.Boxes.{CanSplit}

-- a line that differs in its intervals alone is a part; a part can be split where its box can, and
-- the rule of an obligation is held over the one where it is over the other
pub record APartStandsForItsBox : Type 0 where
  pub own : (line part : Line) → SameButParams line part → IsPart line (declared_box part) part
  pub split : (line part : Line) (box : Box) (param mid : ℕ) → IsPart line box part
      → CanSplit part (declared_box part) param mid ↔ CanSplit line box param mid
  pub held : (line part : Line) (box : Box) (script : Script) (k : ℕ) → IsPart line box part
      → IsHeldOver part script k (declared_box part) ↔ IsHeldOver line script k box

-- a declared box is split below 4,000 ticks
abbrev pub MiddlesAreBelowTheGreatestInterval : Type 0
MiddlesAreBelowTheGreatestInterval =
    (line : Line) (param mid : ℕ) → CanSplit line (declared_box line) param mid → mid < 4000
