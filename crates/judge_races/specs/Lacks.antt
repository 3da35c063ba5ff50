-- What a signal lacks at a tick: how much longer it would have to last.
use Rattle.std.specs.Prelude.{◌≤◌, ◌<◌, ◌+◌, ◌-◌, ℕ, Bool, IsTrue, List, Option, Some, None}
use Rattle.judge_verdict.specs.verdict.OneEach.{OneEach}

-- u has been on without a break up to tick b, since p ticks before t or longer
pub record LastedTo (u : ℕ → Bool) (p t b : ℕ) : Type 0 where
  pub from : ℕ
  pub early : from + p ≤ t
  pub ordered : from ≤ b
  pub past : b ≤ t
  pub on : (r : ℕ) → from ≤ r → r ≤ b → IsTrue (u r)

-- u, lasting d ticks longer and no less, would have been on at tick t for p ticks
pub record IsLack (u : ℕ → Bool) (p t d : ℕ) : Type 0 where
  pub within : d ≤ t
  pub lasted : LastedTo u p t (t - d)
  pub latest : (b : ℕ) → t < b + d → ¬ (LastedTo u p t b)

-- the same; nothing where no time would do
abbrev pub Lacks : (ℕ → Bool) → ℕ → ℕ → Option ℕ → Type 0
Lacks u p t None = (b : ℕ) → ¬ (LastedTo u p t b)
Lacks u p t (Some d) = IsLack u p t d

-- the same below tick n
pub record LastedBelow (u : ℕ → Bool) (p n b : ℕ) : Type 0 where
  pub from : ℕ
  pub early : from + p < n
  pub ordered : from ≤ b
  pub past : b < n
  pub on : (r : ℕ) → from ≤ r → r ≤ b → IsTrue (u r)

-- the last tick below n that it lasted to
pub record IsLast (u : ℕ → Bool) (p n last : ℕ) : Type 0 where
  pub lasted : LastedBelow u p n last
  pub latest : (b : ℕ) → last < b → ¬ (LastedBelow u p n b)

abbrev pub LastBelow : (ℕ → Bool) → ℕ → ℕ → Option ℕ → Type 0
LastBelow u p n None = (b : ℕ) → ¬ (LastedBelow u p n b)
LastBelow u p n (Some last) = IsLast u p n last

-- what it lacks at each of n ticks
abbrev pub IsColumn : (ℕ → Bool) → ℕ → ℕ → List (Option ℕ) → Type 0
IsColumn u p n column = OneEach (Lacks u p) n column

-- lasting g ticks longer it would be on at t for p ticks
pub record Reaches (u : ℕ → Bool) (p g t : ℕ) : Type 0 where
  pub to : ℕ
  pub lasted : LastedTo u p t to
  pub near : t ≤ to + g
