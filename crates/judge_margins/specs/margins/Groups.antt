-- Obligations of one script, and what is said of all of them.
use Rattle.std.specs.Prelude.{◌≡◌, ◌≤◌, ◌<◌, ℕ, List, Some, length, slice_get}
use Rattle.std.specs.List.{All}
use Rattle.model_line.specs.Fits.{Fits}
use Rattle.model_logic.specs.Choice.{Box, declared_box}
use Rattle.judge_report.specs.declared.upper_end.Lost.{Lost}
use Rattle.judge_margins.specs.{declared.margins.group.Group.Group, margins.Kept.AreKept, margins.Kept.AreObligations}
use Rattle.judge_margins.specs.margins.Kept.{IsFirstLost}

-- they are of this script, and are held over the declared intervals
pub record IsGroup (of : Group) : Type 0 where
  pub fit : All (Fits of.compiled.line.now) of.scripts.now
  pub exist : AreObligations of.compiled.line.now of.scripts.now of.these.now
  pub held : AreKept of.compiled.line.now of.scripts.now (declared_box of.compiled.line.now)
      of.these.now
      (length of.these.now)
  pub script : of.script < length of.scripts.now
  pub same : (i : ℕ) (o : Lost) → slice_get of.these.now i ≡ Some o → o.script ≡ of.script

-- all of them are held over a box
abbrev pub AllKept : Group → Box → Type 0
AllKept of box = AreKept of.compiled.line.now of.scripts.now box of.these.now (length of.these.now)

-- the first of them that is not
abbrev pub IsFirstOf : Group → Box → Lost → Type 0
IsFirstOf of box o =
    IsFirstLost of.compiled.line.now of.scripts.now box of.these.now (length of.these.now) o

-- the obligations from one place up to another are of the first one's script
pub record AreOfOneScript (obligations : List Lost) (first next : ℕ) : Type 0 where
  pub same : (i : ℕ) (o p : Lost) → first ≤ i → i < next → slice_get obligations first ≡ Some p
      → slice_get obligations i ≡ Some o → o.script ≡ p.script
