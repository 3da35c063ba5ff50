-- The elements over a history: the truth value at each tick, counted from 0.
-- Before tick 0 everything is off.
use Rattle.std.specs.Prelude.{◌≡◌, ℕ, zero, suc, ◌+◌, ◌-◌, ◌<◌, ◌≤◌, Bool, true, false, ◌&&◌, ◌||◌}
use Rattle.std.specs.Prelude.{nat_le, IsTrue}

-- every number below n passes the test
abbrev pub every_below : (ℕ → Bool) → ℕ → Bool
every_below test zero = true
every_below test (suc n) = test n && every_below test n

-- some number below n passes the test
abbrev pub some_below : (ℕ → Bool) → ℕ → Bool
some_below test zero = false
some_below test (suc n) = test n || some_below test n

-- u has been on for p ticks before s: s is at least p, and u is on at every tick from s - p to s
unfoldable pub hold : (ℕ → Bool) → ℕ → ℕ → Bool
hold u p s = nat_le p s && every_below (λ k. u (s - k)) (suc p)

-- the timed element with pickup p and dropout d, at t: some s with s ≤ t ≤ s + d has `hold u p s`
unfoldable pub timed : (ℕ → Bool) → ℕ → ℕ → ℕ → Bool
timed u p d t = some_below (λ s. nat_le t (s + d) && hold u p s) (suc t)

-- the seal, at t: some s ≤ t has `set` at s, and `keep` at every r from s + 1 to t
unfoldable pub sealed : (ℕ → Bool) → (ℕ → Bool) → ℕ → Bool
sealed set keep t =
    some_below (λ s. set s && every_below (λ r. nat_le r s || keep r) (suc t)) (suc t)

-- the delay of c ticks, at t: c ≤ t, and u is on at t - c
unfoldable pub delayed : (ℕ → Bool) → ℕ → ℕ → Bool
delayed u c t = nat_le c t && u (t - c)

-- ---- the same as facts: the laws say that each truth value above decides the fact of its name

pub record Holds (u : ℕ → Bool) (p s : ℕ) : Type 0 where
  pub late : p ≤ s
  pub on : (r : ℕ) → s ≤ r + p → r ≤ s → IsTrue (u r)

pub record IsTimed (u : ℕ → Bool) (p d t : ℕ) : Type 0 where
  pub s : ℕ
  pub past : s ≤ t
  pub lasts : t ≤ s + d
  pub holds : Holds u p s

pub record IsSealed (set keep : ℕ → Bool) (t : ℕ) : Type 0 where
  pub s : ℕ
  pub past : s ≤ t
  pub starts : IsTrue (set s)
  pub stays : (r : ℕ) → s < r → r ≤ t → IsTrue (keep r)

-- ---- two histories

-- they are the same up to tick t
abbrev pub SameUpTo : (ℕ → Bool) → (ℕ → Bool) → ℕ → Type 0
SameUpTo u v t = (r : ℕ) → r ≤ t → u r ≡ v r

-- up to tick t, wherever u is on, v is
abbrev pub Below : (ℕ → Bool) → (ℕ → Bool) → ℕ → Type 0
Below u v t = (r : ℕ) → r ≤ t → IsTrue (u r) → IsTrue (v r)
