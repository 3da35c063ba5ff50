-- What is done with a part.
use Rattle.std.specs.Prelude.{◌≤◌, ◌<◌, ℕ, List, length}
use Rattle.model_history.specs.Rails.{Ends}
use Rattle.judge_times.specs.declared.search.Next.{Next}
use Rattle.judge_times.specs.declared.search.Next.TheVariants as next

-- it is told or halved at one of its times; it is halved where it may be
abbrev pub IsNextOf : List Ends → ℕ → Next → Type 0
IsNextOf part depth next.Told = Unit {0}
IsNextOf part depth next.Ends = Unit {0}
IsNextOf part depth (next.Ticks place) = place < length part
IsNextOf part depth (next.Halves place) = (place < length part) × (1 ≤ depth)
