-- The ticks at which a key is what a rail looks for.
use Rattle.std.specs.Prelude.{◌≡◌, ◌≤◌, ◌<◌, ℕ, Bool, false, IsFalse}
use Rattle.model_history.specs.Rails.{Rails}
use Rattle.model_settle.specs.Sides.{Rail, value_on}
use Rattle.model_settle.specs.Worst.{shows}

-- the key at a tick is what the rail looks for
abbrev pub is_shown_at : Rail → (ℕ → Rails) → ℕ → Bool
is_shown_at rail u s = shows rail (value_on rail (u s))

-- it is at none of these ticks
abbrev pub NoneIsShown : Rail → (ℕ → Rails) → ℕ → ℕ → Type 0
NoneIsShown rail u from end =
    (s : ℕ) → from ≤ s → s < end → IsFalse (is_shown_at rail u s)

-- where nothing has arrived yet after a delay up to this one, that is not looked for
abbrev pub NothingIsAwaited : Rail → ℕ → ℕ → Type 0
NothingIsAwaited rail greatest t =
    (k : ℕ) → k ≤ greatest → t < k → IsFalse (shows rail false)

-- the key is the same from this tick on until that one
pub record IsAlikeUntil (u : ℕ → Rails) (s end : ℕ) : Type 0 where
  pub later : s < end
  pub same : (r : ℕ) → s ≤ r → r < end → u r ≡ u s
