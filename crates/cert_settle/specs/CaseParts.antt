-- The parts that a tree tells apart: boxes, each with what is assumed there.
use Rattle.std.specs.Prelude.{◌++◌, ℕ, Bool, true, false, List, [], ◌∷◌, Option, None, Some}
use Rattle.model_line.specs.{declared.line.Line.Line, declared.script.Script.Script}
use Rattle.model_logic.specs.Choice.{Box, declared_box}
use Rattle.model_settle.specs.{Assumed.Assumption, Assumed.Throughout, Assumed.Interrupted}
use Rattle.model_settle.specs.CaseTrees.{CaseTree, Yes, Undecided, Parted, Wanted}
use Rattle.model_settle.specs.CaseTrees.{IsShownUnder, AreSound}
use Rattle.model_settle.specs.Parts.{upper_from}
use Rattle.model_logic.specs.Boxes.{lower_half}
use Rattle.judge_cases.specs.AssumedAt.{span_at}
use Rattle.judge_cases.specs.declared.node.CaseNode.{CaseNode}
use Rattle.judge_cases.specs.declared.node.CaseNode.TheVariants as node

-- a box, and what is assumed there, the latest first
pub record CasePart : Type 0 where
  pub box : Box
  pub assumed : List Assumption

-- the declared box, where nothing is assumed
abbrev pub whole_part : Line → CasePart
whole_part line = record { box = declared_box line; assumed = [] }

-- both parts of a box, under the same assumptions; the same box, under one assumption more
abbrev pub lower_of : CasePart → ℕ → ℕ → CasePart
lower_of part param mid =
    record { box = lower_half part.box param mid; assumed = part.assumed }

abbrev pub upper_of : CasePart → ℕ → ℕ → CasePart
upper_of part param mid =
    record { box = upper_from part.box param mid; assumed = part.assumed }

abbrev pub under : CasePart → Assumption → CasePart
under part new = record { box = part.box; assumed = new ∷ part.assumed }

-- the parts of the two trees below a node, where it is a part or a pair of cases
abbrev pub parts_below : CasePart → CaseNode → Option (CasePart × CasePart)
parts_below part node.Yes = None
parts_below part node.Undecided = None
parts_below part (node.Parted param mid) = Some (lower_of part param mid, upper_of part param mid)
parts_below part (node.Wanted terminal from to) =
    Some (under part (Throughout (span_at terminal from to)), under part (Interrupted (span_at terminal from to)))

-- a leaf: its part, and whether it is yes
pub record Leaf : Type 0 where
  pub part : CasePart
  pub yes : Bool

-- the leaves of a tree over this part, in the order of the tree
abbrev pub leaves : CasePart → CaseTree → List Leaf
leaves part Yes = (record { part = part; yes = true }) ∷ []
leaves part Undecided = (record { part = part; yes = false }) ∷ []
leaves part (Parted param mid lower upper) =
    leaves (lower_of part param mid) lower ++ leaves (upper_of part param mid) upper
leaves part (Wanted span throughout interrupted) =
    leaves (under part (Throughout span)) throughout
    ++ leaves (under part (Interrupted span)) interrupted

-- the obligation of terminal k is shown over the part; each yes leaf of the tree is, each part can be
-- made, and each pair of cases told apart
abbrev pub IsShownOver : Line → Script → ℕ → CasePart → Type 0
IsShownOver line script k part = IsShownUnder line script k part.box part.assumed

abbrev pub AreSoundOver : Line → Script → ℕ → CasePart → CaseTree → Type 0
AreSoundOver line script k part tree = AreSound line script k part.box part.assumed tree
