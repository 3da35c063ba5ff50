-- Where signals change, and signals that have the same changes, each at about the same tick.
use Rattle.std.specs.Prelude.{◌≡◌, ◌≤◌, ◌<◌, ◌+◌, ℕ, Bool, false, not, List, filter}
use Rattle.std.specs.List.{AllZip, range_with_len}
use Rattle.std.specs.Bool.{beq}
use Rattle.run_changes.specs.rows.PlayRows.{value_before}

-- the signal has another level at a tick than before it
abbrev pub turns : (ℕ → Bool) → ℕ → Bool
turns u t = not (beq (u t) (value_before u t))

-- the ticks of the first n at which it does, in order; it goes on at the first of them, off at the
-- second, and so on
abbrev pub changes : (ℕ → Bool) → ℕ → List ℕ
changes u n = filter (turns u) (range_with_len 0 n)

-- two ticks are at most so far apart
pub record AreNear (within a b : ℕ) : Type 0 where
  pub early : a ≤ b + within
  pub late : b ≤ a + within

-- the two signals have as many changes in the first n ticks, and each one of the first is at most
-- so far from that of the second; they go the same way, since both signals are off before tick 0
abbrev pub HaveSameChanges : ℕ → ℕ → (ℕ → Bool) → (ℕ → Bool) → Type 0
HaveSameChanges within n u v = AllZip (AreNear within) (changes u n) (changes v n)

-- the signal has a level at each of the first n ticks that is at most so far from tick t; where
-- that reaches before tick 0, the level is off
pub record StaysAround (within n : ℕ) (u : ℕ → Bool) (t : ℕ) (level : Bool) : Type 0 where
  pub ticks : (r : ℕ) → r < n → t ≤ r + within → r ≤ t + within → u r ≡ level
  pub start : t < within → level ≡ false
