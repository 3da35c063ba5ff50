-- What records are told under, and of which ranges they are.
use Rattle.std.specs.Prelude.{◌≤◌, ◌<◌, ◌-◌, ◌^◌, ℕ, length}
use Rattle.judge_choose.specs.{declared.range.Range.Range}
use Rattle.call_choose.specs.Left.{IsSmallBound}
use Rattle.call_choose.specs.declared.named.Named.{Named}

-- the ends of what is declared are in order, and at most 4,000 ticks
pub record IsInterval (named : Named) : Type 0 where
  pub ordered : named.least ≤ named.greatest
  pub limit : named.greatest ≤ 4000

abbrev pub width_of : Named → ℕ
width_of named = named.greatest - named.least

-- a range of positions up to 4,000 ticks, of so few obligations that each place is a number
pub record IsTellable (range : Range) : Type 0 where
  pub ordered : range.first ≤ range.last
  pub limit : range.last ≤ 4000
  pub few : length range.kept.items < 2 ^ 32
  pub below : IsSmallBound range.below
  pub above : IsSmallBound range.above
