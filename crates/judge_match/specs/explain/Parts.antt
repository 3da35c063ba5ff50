-- Parts of the declared intervals, and trees of parts.
use Rattle.std.specs.Prelude.{◌≡◌, ◌≤◌, ◌<◌, ◌+◌, ◌++◌, ◌⊎◌, ℕ, Bool, List, [], ◌∷◌, map, get_or, length}
use Rattle.std.specs.Prelude.{slice_set}
use Rattle.std.specs.List.{range_with_len}
use Rattle.model_history.specs.Rails.{Ends, Covers}
use Rattle.model_line.specs.{declared.line.Line.Line, declared.script.Script.Script}
use Rattle.model_line.specs.Parameters.{param_count, terminal_count, declared_ends}
use Rattle.model_logic.specs.{Boxes.box_of, Boxes.interval_of, Choice.Box, Choice.IsIn}
use Rattle.model_logic.specs.Histories.{History, PairHistory, IsPairHistory}
use Rattle.model_timing.specs.Timing.{TimingValues}
use Rattle.judge_match.specs.explain.Changes.{StaysAround}
use Rattle.judge_match.specs.explain.Explains.{Explains, signal_of, pairs_of}
use Rattle.judge_match.specs.declared.explain.tree.PartNode.{PartNode}
use Rattle.judge_match.specs.declared.explain.tree.PartNode.TheVariants as node

-- a part is an interval for each parameter, in the order of the line

-- the box of a part: each delay stays in its interval
abbrev pub part_box : Line → List Ends → Box
part_box line part = box_of line (interval_of part)

-- the declared intervals
abbrev pub declared_part : Line → List Ends
declared_part line = map (declared_ends line) (range_with_len 0 (param_count line))

-- one number for each parameter, in its interval, and no steps
pub record LiesIn (line : Line) (part : List Ends) (timing : TimingValues) : Type 0 where
  pub count : length timing.values ≡ param_count line
  pub numbers : (i : ℕ) → i < param_count line
      → IsIn (get_or timing.values i 0) (interval_of part i)
  pub steady : timing.steps ≡ []

-- the part with another interval for a parameter
abbrev pub part_with : List Ends → ℕ → ℕ → ℕ → List Ends
part_with part param least greatest =
    slice_set part param (record { least = least; greatest = greatest })

-- the numbers of a parameter up to `mid`, and those above
abbrev pub lower_part : List Ends → ℕ → ℕ → List Ends
lower_part part param mid = part_with part param (interval_of part param).least mid

abbrev pub upper_part : List Ends → ℕ → ℕ → List Ends
upper_part part param mid = part_with part param (mid + 1) (interval_of part param).greatest

-- neither is empty
pub record CanPart (line : Line) (part : List Ends) (param mid : ℕ) : Type 0 where
  pub exists : param < param_count line
  pub above : (interval_of part param).least ≤ mid
  pub below : mid < (interval_of part param).greatest

-- ---- leaves

-- somewhere the record's signal has one level at all ticks that are not too far, and the pair that
-- the interval rules give over the part does not allow this level
pub record IsExcludedByRails (line : Line) (script : Script) (within : ℕ) (recorded : History)
    (part : List Ends) : Type 0 where
  pub trip : Bool
  pub k : ℕ
  pub t : ℕ
  pub level : Bool
  pub terminal : k < terminal_count line
  pub tick : t < line.horizon
  pub stays : StaysAround within line.horizon (signal_of recorded trip k) t level
  pub excludes : (w : PairHistory) → IsPairHistory line script (part_box line part) w
      → ¬ (Covers (pairs_of w trip k t) level)

-- one timing alone lies in the part, and it does not explain the record
pub record IsExcludedByPlay (line : Line) (script : Script) (within : ℕ) (recorded : History)
    (part : List Ends) : Type 0 where
  pub timing : TimingValues
  pub only : (other : TimingValues) → LiesIn line part other → other ≡ timing
  pub fails : ¬ (Explains line script within recorded timing)

abbrev pub IsExcludedPart : Line → Script → ℕ → History → List Ends → Type 0
IsExcludedPart line script within recorded part =
    IsExcludedByRails line script within recorded part
    ⊎ IsExcludedByPlay line script within recorded part

-- ---- trees

-- a part that is excluded; or it is parted where the number of a parameter goes past `mid`, and a
-- tree stands for each side
pub data PartTree : Type 0 where
  Excluded : PartTree
  Parted : (param mid : ℕ) (first second : PartTree) → PartTree

-- the nodes of a tree in preorder
abbrev pub preorder : PartTree → List PartNode
preorder Excluded = node.Excluded ∷ []
preorder (Parted param mid first second) =
    node.Parted param mid ∷ (preorder first ++ preorder second)

-- how many parts it comes to
abbrev pub part_count : PartTree → ℕ
part_count Excluded = 1
part_count (Parted param mid first second) = part_count first + part_count second

-- each leaf of the tree is excluded, in its part
abbrev pub AreExcluded : Line → Script → ℕ → History → List Ends → PartTree → Type 0
AreExcluded line script within recorded part Excluded =
    IsExcludedPart line script within recorded part
AreExcluded line script within recorded part (Parted param mid first second) =
    CanPart line part param mid
    × (AreExcluded line script within recorded (lower_part part param mid) first
    × AreExcluded line script within recorded (upper_part part param mid) second)
