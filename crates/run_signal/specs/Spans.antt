-- Spans of ticks.
use Rattle.std.specs.Prelude.{ℕ, ◌≤◌, ◌<◌}
use Rattle.model_history.specs.Rails.{Ends}

-- the ends are in order, and at most 4,000
pub record AreInOrder (ends : Ends) : Type 0 where
  pub ordered : ends.least ≤ ends.greatest
  pub limited : ends.greatest ≤ 4000

-- they are so in each lane
abbrev pub InOrderInEachLane : ℕ → (ℕ → Ends) → Type 0
InOrderInEachLane lanes ends = (lane : ℕ) → lane < lanes → AreInOrder (ends lane)

-- the span from one number to another
abbrev pub ends_of : ℕ → ℕ → Ends
ends_of least greatest = record { least = least; greatest = greatest }
