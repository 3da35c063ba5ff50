-- The first tick at which a signal is on.
use Rattle.std.specs.Prelude.{◌≡◌, ◌<◌, ◌≤◌, ℕ, Bool, true, false}
use Rattle.std.specs.Prelude.{Option, Some, None}
use Rattle.std.specs.List.{position}
use Rattle.model_history.specs.Recorded.{first_ticks}

-- the place of the first `true` among the values at the first n ticks, if there is one
abbrev pub first_on : (ℕ → Bool) → ℕ → Option ℕ
first_on u n = position (λ on. on) (first_ticks u n)

-- none of the ticks from `from` on before `end` is on
abbrev pub IsOffFrom : (ℕ → Bool) → ℕ → ℕ → Type 0
IsOffFrom u from end = (r : ℕ) → from ≤ r → r < end → u r ≡ false

-- t is the first of them that is on
pub record IsFirstOnAt (u : ℕ → Bool) (from end t : ℕ) : Type 0 where
  pub from_there : from ≤ t
  pub within : t < end
  pub on : u t ≡ true
  pub before : IsOffFrom u from t

-- the first of them that is on, if there is one
abbrev pub IsFirstOn : (ℕ → Bool) → ℕ → ℕ → Option ℕ → Type 0
IsFirstOn u from end None = IsOffFrom u from end
IsFirstOn u from end (Some t) = IsFirstOnAt u from end t
