-- Vectors of 64 numbers, lane by lane.
use Rattle.std.specs.Prelude.{◌≡◌, ℕ, ◌<◌, Bool, List, slice_index}
use Rattle.run_signal.specs.{Counts.steady_of, Cells.CellNumbers, Cells.AreBounded}
use Rattle.run_signal.specs.{Cells.numbers_of}

-- lane i of v holds f i
abbrev pub HasLanes : List ℕ → (ℕ → ℕ) → Type 0
HasLanes v f = (i : ℕ) → i < 64 → slice_index v i ≡ f i

-- the numbers of the cells of 64 lanes, side by side
pub record CellVectors : Type 0 where
  pub pickup : List ℕ
  pub dropout : List ℕ
  pub run : List ℕ
  pub left : List ℕ

abbrev pub vectors_of : List ℕ → List ℕ → List ℕ → List ℕ → CellVectors
vectors_of pickup dropout run left =
    record { pickup = pickup; dropout = dropout; run = run; left = left }

-- the numbers of one lane
abbrev pub numbers_in : CellVectors → ℕ → CellNumbers
numbers_in v lane =
    numbers_of (slice_index v.pickup lane) (slice_index v.dropout lane) (slice_index v.run lane)
    (slice_index v.left lane)

-- for how many ticks with this input the answers of one lane stay the same, up to 4,000
abbrev pub steady_in : CellVectors → ℕ → Bool → ℕ
steady_in v lane on =
    steady_of (slice_index v.pickup lane) (slice_index v.run lane) (slice_index v.left lane) on

-- the numbers of each lane keep their bounds
abbrev pub AreBoundedInEachLane : CellVectors → Type 0
AreBoundedInEachLane v = (lane : ℕ) → lane < 64 → AreBounded (numbers_in v lane)
