-- The positions of a setting, and the boxes over which obligations are asked about.
use Rattle.std.specs.Prelude.{◌≡◌, ◌≤◌, ◌<◌, ◌+◌, ◌-◌, ◌==◌, ℕ, Bool, Some, IsTrue, slice_get}
use Rattle.std.specs.Prelude.{if◌then◌else◌}
use Rattle.std.specs.List.{list_any}
use Rattle.model_history.specs.Rails.{Ends}
use Rattle.model_line.specs.{declared.line.Line.Line, Parameters.declared_ends}
use Rattle.model_line.specs.Parameters.{is_delay, param_count}
use Rattle.model_logic.specs.{Choice.Box, Boxes.box_of}
use Rattle.judge_choose.specs.{declared.setting.Setting.Setting, declared.cover.Cover.Cover}

-- a parameter that moves: one of the line that is no delay, declared to begin at the setting's
-- declared position; its interval, with its width, can begin at the last one
pub record CanMove (line : Line) (setting : Setting) (param : ℕ) : Type 0 where
  pub exists : param < param_count line
  pub number : ¬ (IsTrue (is_delay line param))
  pub declared : (declared_ends line param).least ≡ setting.declared
  pub room : setting.last
      + ((declared_ends line param).greatest - (declared_ends line param).least) ≤ 4000

-- each of its parameters can move, and the declared position is one of those that are looked at
pub record IsSetting (line : Line) (setting : Setting) : Type 0 where
  pub each : (i param : ℕ) → slice_get setting.params.items i ≡ Some param
      → CanMove line setting param
  pub declared : setting.declared ≤ setting.last
  pub limit : setting.last ≤ 4000

-- the parameter is one of those that move
abbrev pub moves : Setting → ℕ → Bool
moves setting param = list_any (λ p. p == param) setting.params.items

-- from the least end at the first position to the greatest end at the last one, the interval being
-- as wide as declared at each
abbrev pub stretched : Ends → ℕ → ℕ → Ends
stretched declared first last =
    record { least = first; greatest = last + (declared.greatest - declared.least) }

-- what moves is stretched; all else is as declared
abbrev pub cover_ends : Line → Setting → ℕ → ℕ → ℕ → Ends
cover_ends line setting first last i =
    if moves setting i then stretched (declared_ends line i) first last else declared_ends line i

-- the box that covers the positions from the first to the last
abbrev pub cover_box : Line → Setting → ℕ → ℕ → Box
cover_box line setting first last = box_of line (cover_ends line setting first last)

-- the box of one position: each interval begins there, with its width
abbrev pub position_box : Line → Setting → ℕ → Box
position_box line setting at = cover_box line setting at at

-- positions in order, none past the last one
pub record IsCover (line : Line) (cover : Cover) : Type 0 where
  pub setting : IsSetting line cover.setting.now
  pub ordered : cover.first ≤ cover.last
  pub within : cover.last ≤ cover.setting.now.last

abbrev pub box_of_cover : Line → Cover → Box
box_of_cover line cover = cover_box line cover.setting.now cover.first cover.last
