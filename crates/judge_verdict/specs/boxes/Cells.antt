-- What the cells of both rails stand for, in a lane.
use Rattle.std.specs.Prelude.{◌≤◌, ℕ, Bool, List, map, slice_index}
use Rattle.model_history.specs.Rails.{Rails, both, single, must_of, may_of}
use Rattle.run_signal.specs.Cells.{AllSound, RailsStandFor}
use Rattle.run_signal.specs.Vectors.{CellVectors, numbers_in}
use Rattle.judge_verdict.specs.boxes.Spans.{SpanLists}

-- one of the two rails, as a value that is known
abbrev pub one_rail : (Rails → Bool) → List Rails → List Rails
one_rail rail recorded = map (λ x. both (rail x)) recorded

-- the cells of a lane stand for a value that is known
abbrev pub StandForKnown : CellVectors → ℕ → ℕ → ℕ → List Rails → Type 0
StandForKnown cells pickup dropout lane recorded =
    RailsStandFor (numbers_in cells lane) (numbers_in cells lane) (single pickup) (single dropout)
    recorded

-- the cells of the must rail have the greatest pickup and the least dropout, those of the may rail
-- the least pickup and the greatest dropout
pub record StandFor (must may : CellVectors) (pickup dropout : SpanLists) (lane : ℕ)
    (recorded : List Rails) : Type 0 where
  pub must_stands : StandForKnown must (slice_index pickup.greatest lane)
      (slice_index dropout.least lane) lane (one_rail must_of recorded)
  pub may_stands : StandForKnown may (slice_index pickup.least lane)
      (slice_index dropout.greatest lane) lane (one_rail may_of recorded)
  pub pickup_ordered : slice_index pickup.least lane ≤ slice_index pickup.greatest lane
  pub dropout_ordered : slice_index dropout.least lane ≤ slice_index dropout.greatest lane
  pub sound : AllSound recorded
