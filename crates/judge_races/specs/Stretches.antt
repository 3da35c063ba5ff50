-- Stretches of ticks at which a signal is on.
use Rattle.std.specs.Prelude.{◌≤◌, ◌<◌, ◌+◌, ℕ, Bool, IsTrue, IsFalse, List, Option, Some}
use Rattle.std.specs.Prelude.{None}
use Rattle.judge_verdict.specs.verdict.OneEach.{OneEach}
use Rattle.judge_races.specs.declared.stretch.Stretch.{Stretch}

-- u is on from r on until e, and e is n or u is off at e
pub record IsOffFrom (u : ℕ → Bool) (n r e : ℕ) : Type 0 where
  pub later : r ≤ e
  pub within : e ≤ n
  pub on : (s : ℕ) → r ≤ s → s < e → IsTrue (u s)
  pub off : e < n → IsFalse (u e)

-- at each of n ticks, the first from it on at which it is off
abbrev pub AreOffs : (ℕ → Bool) → ℕ → List ℕ → Type 0
AreOffs u n offs = OneEach (IsOffFrom u n) n offs

-- below n it is on for so many ticks from this one on
pub record IsStretch (u : ℕ → Bool) (n from ticks : ℕ) : Type 0 where
  pub some : 1 ≤ ticks
  pub within : from + ticks ≤ n
  pub on : (r : ℕ) → from ≤ r → r < from + ticks → IsTrue (u r)

-- the longest, and of these the first
pub record IsLongest (u : ℕ → Bool) (n : ℕ) (found : Stretch) : Type 0 where
  pub is : IsStretch u n found.from found.ticks
  pub longest : (from ticks : ℕ) → IsStretch u n from ticks → ticks ≤ found.ticks
  pub first : (from : ℕ) → IsStretch u n from found.ticks → found.from ≤ from

-- the same; nothing where it is on at no tick below n
abbrev pub Longest : (ℕ → Bool) → ℕ → Option Stretch → Type 0
Longest u n None = (r : ℕ) → r < n → IsFalse (u r)
Longest u n (Some found) = IsLongest u n found
