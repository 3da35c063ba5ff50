-- The channel that an id names, the levels of a channel at ticks, and what is said of times.
use Rattle.std.specs.Prelude.{◌≤◌, ◌<◌, ◌+◌, ℕ, Bool, false, List, map, length}
use Rattle.std.specs.Prelude.{slice_index, Option, Some, None, get_or}
use Rattle.std.specs.List.{slice_get}
use Rattle.file_comtrade.specs.{Data.SampleValues}

-- no sample's time is before that of the sample before it
abbrev pub NeverFalls : List ℕ → Type 0
NeverFalls times = (k : ℕ) → k + 1 < length times → slice_index times k ≤ slice_index times (k + 1)

-- the level of a chosen channel, by its place in the choice, in a sample
abbrev pub level_in : ℕ → Option SampleValues → Bool
level_in choice None = false
level_in choice (Some sample) = get_or sample.levels choice false

-- the levels of a chosen channel at ticks, by the samples that hold there
abbrev pub levels_at : List SampleValues → ℕ → List ℕ → List Bool
levels_at samples choice at = map (λ i. level_in choice (slice_get samples i)) at
