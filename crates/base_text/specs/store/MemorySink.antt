-- What contracts see of a sink in memory.
use Rattle.std.specs.Prelude.{ℕ, ◌-◌, ◌≤◌, min, List, [], ◌++◌, length, Option, None, Contains, ◌⊎◌}
use Rattle.base_text.specs.{store.Bound.at_most, store.Counts.one_more}

-- a sink in memory
pub record SinkState : Type 0 where
  -- the bytes that it took
  pub written : List ℕ
  -- how many bytes it has room for, those that it took included
  pub room : ℕ
  -- the numbers of the pushes that fail and of those that take nothing, the first push being 1
  pub failing : List ℕ
  pub taking_none : List ℕ
  -- the most bytes that one push takes, if there is a bound
  pub bound : Option ℕ
  -- how many pushes were made, and how many of them took nothing
  pub pushes : ℕ
  pub faults : ℕ

-- a sink with so much room, of which nothing was asked yet
abbrev pub empty_sink : ℕ → SinkState
empty_sink room = record {
  written = [];
  room = room;
  failing = [];
  taking_none = [];
  bound = None;
  pushes = 0;
  faults = 0;
}

-- the next push fails
abbrev pub PushFails : SinkState → Type 0
PushFails s = Contains s.failing (one_more s.pushes) ⊎ (s.room ≤ length s.written)

-- a push that doesn't fail takes nothing
abbrev pub TakesNone : SinkState → Type 0
TakesNone s = Contains s.taking_none (one_more s.pushes)

-- how much of a piece of that length any other push takes
abbrev pub push_count : SinkState → ℕ → ℕ
push_count s size = at_most s.bound (min size (s.room - length s.written))

-- the sink after a push that took nothing
abbrev pub after_fault : SinkState → SinkState
after_fault s = record s { pushes = one_more s.pushes; faults = one_more s.faults }

-- the sink after a push that took these bytes
abbrev pub after_push : SinkState → List ℕ → SinkState
after_push s bytes = record s { pushes = one_more s.pushes; written = s.written ++ bytes }
