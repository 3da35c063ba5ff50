-- What timed cells stand for.
use Rattle.std.specs.Prelude.{◌≡◌, ℕ, ◌+◌, ◌≤◌, Bool, List, [], ◌∷◌, map}
use Rattle.model_history.specs.Rails.{Rails, Ends, IsSound, must_of, may_of}
use Rattle.run_signal.specs.Counts.{run_after, left_after, counts}

-- the numbers of one rail, in one lane
pub record CellNumbers : Type 0 where
  pub pickup : ℕ
  pub dropout : ℕ
  pub run : ℕ
  pub left : ℕ

abbrev pub numbers_of : ℕ → ℕ → ℕ → ℕ → CellNumbers
numbers_of pickup dropout run left =
    record { pickup = pickup; dropout = dropout; run = run; left = left }

-- the bounds that the numbers keep
pub record AreBounded (c : CellNumbers) : Type 0 where
  pub pickup : c.pickup ≤ 4000
  pub dropout : c.dropout ≤ 4000
  pub run : c.run ≤ c.pickup + 1
  pub left : c.left ≤ c.dropout + 1

-- the numbers before the first tick
abbrev pub fresh_numbers : ℕ → ℕ → CellNumbers
fresh_numbers p d = record { pickup = p; dropout = d; run = 0; left = 0 }

-- the numbers after n more ticks, all with this input
abbrev pub numbers_after : ℕ → CellNumbers → Bool → CellNumbers
numbers_after n c on = record {
  pickup = c.pickup;
  dropout = c.dropout;
  run = run_after c.pickup n c.run on;
  left = left_after c.pickup c.dropout n (run_after c.pickup n c.run on) c.left;
}

-- they stand for a pickup, a dropout, and the rail's history so far
pub record RailStandsFor (c : CellNumbers) (p d : ℕ) (recorded : List Bool) : Type 0 where
  pub pickup_is : c.pickup ≡ p
  pub dropout_is : c.dropout ≡ d
  pub run_is : c.run ≡ (counts p d recorded).run
  pub left_is : c.left ≡ (counts p d recorded).left

-- what must be may be, at each tick
abbrev pub AllSound : List Rails → Type 0
AllSound [] = Unit {0}
AllSound (x ∷ recorded) = IsSound x × AllSound recorded

-- the numbers of both rails: the must rail has the greatest pickup and the least dropout, the may
-- rail the least pickup and the greatest dropout
pub record RailsStandFor (must may : CellNumbers) (pickup dropout : Ends)
    (recorded : List Rails) : Type 0 where
  pub must_stands : RailStandsFor must pickup.greatest dropout.least (map must_of recorded)
  pub may_stands : RailStandsFor may pickup.least dropout.greatest (map may_of recorded)
  pub pickup_ordered : pickup.least ≤ pickup.greatest
  pub dropout_ordered : dropout.least ≤ dropout.greatest
  pub sound : AllSound recorded
