-- The margin of one parameter.
use Rattle.std.specs.Prelude.{◌≡◌, ◌≤◌, ◌<◌, ◌+◌, ℕ, List, Option, MatchOption, IsSomeAnd}
use Rattle.model_line.specs.{declared.line.Line.Line, declared.script.Script.Script}
use Rattle.model_line.specs.Parameters.{declared_ends}
use Rattle.judge_report.specs.{declared.upper_end.Lost.Lost, declared.upper_end.UpperEnd.UpperEnd}
use Rattle.judge_report.specs.{Raised.raised, Lost.AllHeld, Lost.IsFirstLost}

-- over the box whose greatest number of the parameter is v every rule is held
abbrev pub IsHeldTo : Line → List Script → ℕ → ℕ → Type 0
IsHeldTo line scripts param v = AllHeld line scripts (raised line param v)

-- v is the greatest number of the parameter, up to 4000, over which every rule is held
pub record IsMargin (line : Line) (scripts : List Script) (param v : ℕ) : Type 0 where
  pub least : (declared_ends line param).least ≤ v
  pub limit : v ≤ 4000
  pub held : IsHeldTo line scripts param v
  pub greatest : (u : ℕ) → v < u → u ≤ 4000 → ¬ (IsHeldTo line scripts param u)

-- there is none
pub record HasNoMargin (line : Line) (scripts : List Script) (param : ℕ) : Type 0 where
  pub never : (v : ℕ) → (declared_ends line param).least ≤ v → v ≤ 4000
      → ¬ (IsHeldTo line scripts param v)

-- the lost obligation: the first that is not held over the box up to v
abbrev pub IsLostAt : Line → List Script → ℕ → ℕ → Lost → Type 0
IsLostAt line scripts param v lost = IsFirstLost line scripts (raised line param v) lost

-- with a margin it is lost one above; at 4000 nothing is lost
abbrev pub IsLostAbove : Line → List Script → ℕ → ℕ → Option Lost → Type 0
IsLostAbove line scripts param v lost =
    MatchOption lost (v ≡ 4000)
    (λ l. (v < 4000) × IsLostAt line scripts param (v + 1) l)

-- without a margin it is lost at the declared least
abbrev pub IsLostAtLeast : Line → List Script → ℕ → Option Lost → Type 0
IsLostAtLeast line scripts param lost =
    IsSomeAnd lost (λ l. IsLostAt line scripts param (declared_ends line param).least l)

-- the margin and the obligation that is lost
abbrev pub IsUpperEnd : Line → List Script → ℕ → UpperEnd → Type 0
IsUpperEnd line scripts param end =
    MatchOption end.greatest
    (HasNoMargin line scripts param × IsLostAtLeast line scripts param end.lost)
    (λ v. IsMargin line scripts param v × IsLostAbove line scripts param v end.lost)

-- the rules are held up to the lower number, and at the upper one this obligation is lost
pub record IsBracket (line : Line) (scripts : List Script) (param low high : ℕ) (lost : Lost)
    : Type 0 where
  pub least : (declared_ends line param).least ≤ low
  pub apart : low < high
  pub limit : high ≤ 4000
  pub held : IsHeldTo line scripts param low
  pub lost_at : IsLostAt line scripts param high lost
