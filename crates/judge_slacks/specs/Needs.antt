-- By how much an end has to be moved inward so that an obligation is held that is not.
use Rattle.std.specs.Prelude.{◌<◌, ℕ, Option, MatchOption}
use Rattle.model_line.specs.{declared.line.Line.Line, declared.script.Script.Script}
use Rattle.model_logic.specs.HeldOver.{IsHeldOver}
use Rattle.judge_margins.specs.declared.margins.end.Side.{Side}
use Rattle.judge_slacks.specs.Inward.{CanMoveIn, narrowed}

-- the rule of a script at terminal k is held with the end moved inward by n
abbrev pub IsHeldIn : Line → Script → ℕ → ℕ → Side → ℕ → Type 0
IsHeldIn line script k param side n = IsHeldOver line script k (narrowed line param side n)

-- n is the least move inward with which it is held
pub record IsLeastMove (line : Line) (script : Script) (k param : ℕ) (side : Side) (n : ℕ)
    : Type 0 where
  pub can : CanMoveIn line param side n
  pub held : IsHeldIn line script k param side n
  pub least : (m : ℕ) → m < n → ¬ (IsHeldIn line script k param side m)

-- it is held with none
abbrev pub NoMoveHolds : Line → Script → ℕ → ℕ → Side → Type 0
NoMoveHolds line script k param side =
    (n : ℕ) → CanMoveIn line param side n → ¬ (IsHeldIn line script k param side n)

-- the least move, or none
abbrev pub IsNeed : Line → Script → ℕ → ℕ → Side → Option ℕ → Type 0
IsNeed line script k param side need =
    MatchOption need (NoMoveHolds line script k param side)
    (λ n. IsLeastMove line script k param side n)
