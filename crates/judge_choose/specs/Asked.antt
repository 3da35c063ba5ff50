-- The four covers that are asked about each of up to 16 candidates, one after another.
use Rattle.std.specs.Prelude.{◌≡◌, ◌+◌, ◌-◌, ◌*◌, ◌/◌, ◌%◌, ◌==◌, ℕ, List, Some, length, min, slice_get}
use Rattle.std.specs.Prelude.{if◌then◌else◌}
use Rattle.judge_choose.specs.declared.cover.Cover.{Cover}

-- the position in a role: one tick below the candidate, one tick above it, the declared one
abbrev pub asked_position : Cover → ℕ → ℕ
asked_position candidate role =
    if role == 1 then candidate.first - 1
    else (if role == 2 then min (candidate.last + 1) candidate.setting.now.last
    else candidate.setting.now.declared)

-- in role 0 the candidate itself, else a position alone
pub record IsAsked (candidate : Cover) (role : ℕ) (cover : Cover) : Type 0 where
  pub setting : cover.setting.now ≡ candidate.setting.now
  pub first : cover.first ≡ (if role == 0 then candidate.first else asked_position candidate role)
  pub last : cover.last ≡ (if role == 0 then candidate.last else asked_position candidate role)

-- the first n
pub record AreAskedBelow (candidates : List Cover) (n : ℕ) (asked : List Cover) : Type 0 where
  pub count : length asked ≡ n
  pub each : (lane : ℕ) (cover : Cover) → slice_get asked lane ≡ Some cover
      → (candidate : Cover) → slice_get candidates (lane / 4) ≡ Some candidate
      → IsAsked candidate (lane % 4) cover

abbrev pub AreAsked : List Cover → List Cover → Type 0
AreAsked candidates asked = AreAskedBelow candidates (4 * length candidates) asked
