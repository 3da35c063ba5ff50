-- Candidates that were found for settings from one on.
use Rattle.std.specs.Prelude.{◌≡◌, ◌≤◌, ◌<◌, ◌+◌, ℕ, List, Some, length, slice_get}
use Rattle.model_line.specs.declared.line.Line.{Line}
use Rattle.judge_choose.specs.{declared.cover.Cover.Cover, declared.setting.Setting.Setting}
use Rattle.judge_choose.specs.{Positions.IsSetting, Told.AreCovers}

abbrev pub AreSettings : Line → List Setting → Type 0
AreSettings line settings =
    (i : ℕ) (setting : Setting) → slice_get settings i ≡ Some setting → IsSetting line setting

-- one for each of the settings from one on
abbrev pub AreOfSettings : List Setting → ℕ → List Cover → Type 0
AreOfSettings settings first candidates =
    (i : ℕ) (candidate : Cover) → slice_get candidates i ≡ Some candidate
    → slice_get settings (first + i) ≡ Some candidate.setting.now

-- up to 16 of them
pub record AreFound (line : Line) (settings : List Setting) (first : ℕ) (candidates : List Cover)
    : Type 0 where
  pub some : 0 < length candidates
  pub few : length candidates ≤ 16
  pub within : first + length candidates ≤ length settings
  pub covers : AreCovers line candidates
  pub of : AreOfSettings settings first candidates
