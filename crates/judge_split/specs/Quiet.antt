-- Boxes that hold each candidate of each part.
use Rattle.std.specs.Prelude.{◌≡◌, ◌<◌, ◌+◌, ◌*◌, ◌==◌, ℕ, Bool, false, List, Some, slice_get}
use Rattle.std.specs.Prelude.{if◌then◌else◌}
use Rattle.model_history.specs.Recorded.{at as is_wide}
use Rattle.model_history.specs.Rails.{Ends, single, IsPartOf}
use Rattle.model_line.specs.Parameters.{param_count, declared_ends}
use Rattle.model_line.specs.SetBounds.{SameButParams}
use Rattle.model_line.specs.{declared.line.Line.Line, declared.script.Script.Script}
use Rattle.judge_verdict.specs.declared.verdict.verdict.Verdict.TheVariants as verdict
use Rattle.judge_verdict.specs.boxes.Held.{IsHeldOf, TellHeld}
use Rattle.judge_split.specs.Search.{IsLower, IsUpper, IsVerdictOf}
use Rattle.judge_split.specs.{declared.node.Node.Node, Found.AreNodes, Widths.IsWidest}

-- the halves of part i, at its widest parameter, are parts 2 i + 2 and 2 i + 3
pub record HasHalves (parts : List Line) (i : ℕ) : Type 0 where
  pub halves : (part first second : Line) (param : ℕ) → slice_get parts i ≡ Some part
      → slice_get parts (2 * i + 2) ≡ Some first → slice_get parts (2 * i + 3) ≡ Some second
      → IsWidest part param → IsLower part param first × IsUpper part param second

-- the two are the halves of the part at its widest parameter, if it has one
abbrev pub HalvesIfAny : Line → Line → Line → Type 0
HalvesIfAny part first second = (param : ℕ) → IsWidest part param
    → IsLower part param first × IsUpper part param second

-- a number of an interval: the least in a low corner, the greatest in a high one, and for one
-- parameter the other way
abbrev pub number_of : Ends → Bool → Bool → ℕ
number_of ends high other =
    if other then (if high then ends.least else ends.greatest)
    else (if high then ends.greatest else ends.least)

-- a parameter's number in a corner
abbrev pub corner_number : Line → Bool → ℕ → ℕ → ℕ
corner_number line high but param = number_of (declared_ends line param) high (param == but)

-- a corner has the whole interval of each parameter that is wide, and one number of each other
pub record IsCorner (line : Line) (wide : List Bool) (high : Bool) (but : ℕ) (corner : Line)
    : Type 0 where
  pub rest : SameButParams line corner
  pub ends : (i : ℕ) → i < param_count line → declared_ends corner i
      ≡ (if is_wide wide i then declared_ends line i else single (corner_number line high but i))

-- there are these corners for each parameter, and for none
pub record AreCorners (line : Line) (wide : List Bool) (n : ℕ) (corners : List Line)
    : Type 0 where
  pub rest : (j : ℕ) (corner : Line) → slice_get corners j ≡ Some corner
      → SameButParams line corner
  pub each : (high : Bool) (but : ℕ) → but < n
      → (j : ℕ) × (corner : Line) × (slice_get corners j ≡ Some corner)
      × IsCorner line wide high but corner

-- the part has the line's interval of each parameter that is not wide, and a part of that of each
-- other
pub record IsNarrowed (line : Line) (wide : List Bool) (part : Line) : Type 0 where
  pub within : (i : ℕ) → i < param_count line
      → IsPartOf (declared_ends part i) (declared_ends line i)
  pub same : (i : ℕ) → i < param_count line → is_wide wide i ≡ false
      → declared_ends part i ≡ declared_ends line i

-- where the rule is not held over a narrowed part, it is undecided
pub record AreSettled (script : Script) (k : ℕ) (line : Line) (wide : List Bool) : Type 0 where
  pub undecided : (part : Line) → SameButParams line part → IsNarrowed line wide part
      → ¬ (IsHeldOf script k part) → IsVerdictOf part script k verdict.Undecided

-- a part of this number is there, and these are the nodes that the search finds over it
pub record ArePartNodes (script : Script) (k : ℕ) (parts : List Line) (i n : ℕ) (nodes : List Node)
    : Type 0 where
  pub part : Line
  pub at : slice_get parts i ≡ Some part
  pub are : AreNodes part script k n nodes

-- so they are for each script and terminal for which it is told whether the rule is held over each
-- part, and the narrowed parts over which it is not are undecided
abbrev pub AreNodesIfTold : Line → List Bool → List Line → List Bool → ℕ → ℕ → List Node → Type 0
AreNodesIfTold line wide parts held i n nodes = (script : Script) (k : ℕ)
    → TellHeld script k parts held → AreSettled script k line wide
    → ArePartNodes script k parts i n nodes
