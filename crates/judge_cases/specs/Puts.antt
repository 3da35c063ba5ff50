-- The masks that put the levels that follow from what views assume.
use Rattle.std.specs.Prelude.{◌≡◌, ◌≢◌, ◌<◌, ◌+◌, ◌*◌, ◌&&◌, ℕ, Bool, List, Option, None, Some}
use Rattle.std.specs.Prelude.{slice_get, nat_lt, if◌then◌else◌}
use Rattle.model_line.specs.declared.line.Line.{Line}
use Rattle.model_logic.specs.{SameTree.same_tree, Tree.Tree}
use Rattle.model_settle.specs.Assumed.{assumed_level, first_of, is_among}
use Rattle.net_gates.specs.{NetOf.NetOf, Formulas.formula_of}
use Rattle.run_ticks.specs.cases.Masks.{IsMask, Levels}
use Rattle.run_ticks.specs.declared.cases.mask.Mask.{Mask}
use Rattle.judge_verdict.specs.declared.boxes.terns.Terns64.{Terns64}
use Rattle.judge_verdict.specs.boxes.Terns.{terns_rails}
use Rattle.judge_cases.specs.declared.view.View.{View}
use Rattle.judge_cases.specs.{Rows.row_count, Views.view_box}

-- levels of trees at ticks
abbrev pub LevelOf : Type 0
LevelOf = Tree → ℕ → Option Bool

abbrev pub no_level : LevelOf
no_level x t = None

-- the levels that follow from what a view assumes; where there is no view, none
abbrev pub view_level : Line → Option View → LevelOf
view_level line None = no_level
view_level line (Some view) = assumed_level line (view_box line view) view.assumed.items

-- in the lane of each view those that follow from what it assumes
abbrev pub views_level : Line → List View → Levels
views_level line views lane = view_level line (slice_get views lane)

-- the view of a lane, if it is one of the first n
abbrev pub view_below : List View → ℕ → ℕ → Option View
view_below views n lane = if nat_lt lane n then slice_get views lane else None

-- levels, but this one of a tree from one tick on, before another
abbrev pub with_level : LevelOf → Tree → ℕ → ℕ → Bool → LevelOf
with_level level x from to v y t =
    first_of (if same_tree y x && is_among from to t then Some v else None) (level y t)

-- in a lane the masks put these levels, at the gates that have rows
abbrev pub PutIn : Line → NetOf → List (Option ℕ) → List (Mask Terns64) → ℕ → LevelOf → Type 0
PutIn line net rows masks lane level =
    (i row t : ℕ) (mask : Mask Terns64) → t < line.horizon → slice_get rows i ≡ Some (Some row)
    → slice_get masks (t * row_count line + row) ≡ Some mask
    → IsMask terns_rails lane (level (formula_of net.gates i) t) mask

-- in each other lane what was put is put still
abbrev pub ArePutStill : Line → NetOf → List (Option ℕ) → ℕ → List (Mask Terns64)
    → List (Mask Terns64) → Type 0
ArePutStill line net rows lane old new =
    (k : ℕ) (level : LevelOf) → k < 64 → k ≢ lane → PutIn line net rows old k level
    → PutIn line net rows new k level
