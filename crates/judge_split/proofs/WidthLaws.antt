-- A parameter that is split is no delay, and its middle lies in its interval.
use Rattle.std.proofs.Common.{◌<◌, ◌≤◌, ◌+◌, ◌/◌, ℕ}
use Rattle.std.proofs.Common.{arith}
use Rattle.model_line.specs.Parameters.{declared_ends, declared_middle}
use Rattle.model_line.specs.declared.line.Line.{Line}
use Rattle.judge_split.specs.Widths.{width}
use Rattle.judge_split.specs.WidthLaws.{split_free}

half_low : (a b : ℕ) → a < b → a ≤ (a + b) / 2
half_low a b lt = omega arith

half_high : (a b : ℕ) → a < b → (a + b) / 2 < b
half_high a b lt = omega arith

pub middle_inside : (line : Line) (param : ℕ) → 0 < width line param
    → ((declared_ends line param).least ≤ declared_middle line param)
    × (declared_middle line param < (declared_ends line param).greatest)
middle_inside line param free = (
  half_low _ _ (split_free line param free),
  half_high _ _ (split_free line param free),
)
