-- How far an end can be moved outward so that obligations are held.
use Rattle.std.specs.Prelude.{◌≡◌, ◌≤◌, ◌<◌, ◌+◌, ◌*◌, ℕ, List, Some, Option, MatchOption, length}
use Rattle.std.specs.Prelude.{slice_get, None}
use Rattle.model_line.specs.{declared.line.Line.Line, declared.script.Script.Script}
use Rattle.model_line.specs.Parameters.{param_count}
use Rattle.judge_report.specs.declared.upper_end.Lost.{Lost}
use Rattle.judge_margins.specs.{declared.margins.end.Side.Side, declared.margins.end.End.End, margins.Kept.AreKept}
use Rattle.judge_margins.specs.{margins.Kept.IsFirstLost, margins.Widened.room, margins.Widened.widened}
use Rattle.judge_margins.specs.margins.Widened.{param_at, side_at}

-- the first n obligations are held with the end moved outward by v
abbrev pub AreKeptTo : Line → List Script → List Lost → ℕ → ℕ → Side → ℕ → Type 0
AreKeptTo line scripts obligations n param side v =
    AreKept line scripts (widened line param side v) obligations n

-- v is the furthest by which the end can be moved so that they are held
pub record IsSlack (line : Line) (scripts : List Script) (obligations : List Lost)
    (n param : ℕ) (side : Side) (v : ℕ) : Type 0 where
  pub within : v ≤ room line param side
  pub kept : AreKeptTo line scripts obligations n param side v
  pub furthest : (u : ℕ) → v < u → u ≤ room line param side
      → ¬ (AreKeptTo line scripts obligations n param side u)

-- what is lost first one tick further; at the limit nothing is
abbrev pub IsLostBeyond :
    Line → List Script → List Lost → ℕ → ℕ → Side → ℕ → Option Lost → Type 0
IsLostBeyond line scripts obligations n param side v lost =
    MatchOption lost (v ≡ room line param side)
    (λ o. (v < room line param side)
    × IsFirstLost line scripts (widened line param side (v + 1)) obligations n o)

-- the slack of an end over the first n obligations, and what is lost beyond
pub record IsEnd (line : Line) (scripts : List Script) (obligations : List Lost)
    (n param : ℕ) (side : Side) (end : End) : Type 0 where
  pub slack : IsSlack line scripts obligations n param side end.slack
  pub lost : IsLostBeyond line scripts obligations n param side end.slack end.lost

-- both ends of each parameter, in order
pub record AreEnds (line : Line) (scripts : List Script) (obligations : List Lost) (n : ℕ)
    (ends : List End) : Type 0 where
  pub count : length ends ≡ 2 * param_count line
  pub each : (place : ℕ) (end : End) → slice_get ends place ≡ Some end
      → IsEnd line scripts obligations n (param_at place) (side_at place) end

-- as an end, but for that nothing further is held
pub record IsFound (line : Line) (scripts : List Script) (obligations : List Lost)
    (n param : ℕ) (side : Side) (end : End) : Type 0 where
  pub within : end.slack ≤ room line param side
  pub kept : AreKeptTo line scripts obligations n param side end.slack
  pub lost : IsLostBeyond line scripts obligations n param side end.slack end.lost

pub record AreFound (line : Line) (scripts : List Script) (obligations : List Lost) (n : ℕ)
    (ends : List End) : Type 0 where
  pub count : length ends ≡ 2 * param_count line
  pub each : (place : ℕ) (end : End) → slice_get ends place ≡ Some end
      → IsFound line scripts obligations n (param_at place) (side_at place) end

-- both ends of each parameter, each with a slack for which there is room
pub record HaveRoom (line : Line) (ends : List End) : Type 0 where
  pub count : length ends ≡ 2 * param_count line
  pub each : (place : ℕ) (end : End) → slice_get ends place ≡ Some end
      → end.slack ≤ room line (param_at place) (side_at place)

-- an end at its limit: each
abbrev pub limit_of : Line → ℕ → End
limit_of line place =
    record { slack = room line (param_at place) (side_at place); lost = None }

pub record AreLimits (line : Line) (ends : List End) : Type 0 where
  pub count : length ends ≡ 2 * param_count line
  pub each : (place : ℕ) (end : End) → slice_get ends place ≡ Some end → end ≡ limit_of line place
