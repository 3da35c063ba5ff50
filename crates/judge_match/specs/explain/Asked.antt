-- What the code keeps of a record, and what is asked of it.
use Rattle.std.specs.Prelude.{◌≡◌, ◌<◌, ℕ, Bool, false, List, Option, Some, length, slice_get, get_or}
use Rattle.model_history.specs.Rails.{Ends, Rails, Covers, single}
use Rattle.model_line.specs.{declared.line.Line.Line}
use Rattle.model_line.specs.Parameters.{param_count, terminal_count}
use Rattle.model_logic.specs.Choice.{LeastFromOne}
use Rattle.model_logic.specs.Histories.{History}
use Rattle.run_signal.specs.{declared.tern.Tern.Tern, Terns.tern_rails}
use Rattle.run_signal.specs.SentKeys.{SentKeys}
use Rattle.run_changes.specs.changes.Tracks.{pair_of}
use Rattle.judge_match.specs.matching.Seen.{seen_history}
use Rattle.judge_match.specs.explain.Changes.{changes, StaysAround}
use Rattle.judge_match.specs.explain.Parts.{part_box}
use Rattle.judge_match.specs.declared.explain.recorded.Recorded.{Recorded}
use Rattle.judge_match.specs.declared.explain.question.Question.{Question}

-- a level in a list; off past the last
abbrev pub level_in : List Bool → ℕ → Bool
level_in levels t = get_or levels t false

-- the levels of a signal at the first n ticks
pub record AreLevels (n : ℕ) (u : ℕ → Bool) (levels : List Bool) : Type 0 where
  pub count : length levels ≡ n
  pub same : (t : ℕ) → t < n → level_in levels t ≡ u t

-- the changes of a signal at the first n ticks, and for each tick the level that it keeps around
-- it, if it keeps one
pub record IsRecorded (within n : ℕ) (u : ℕ → Bool) (r : Recorded) : Type 0 where
  pub changes_are : r.changes.items ≡ changes u n
  pub count : length r.stays.items ≡ n
  pub stays : (t : ℕ) (level : Bool) → slice_get r.stays.items t ≡ Some (Some level)
      → StaysAround within n u t level

-- so it is kept of each of these signals
pub record AreRecorded (line : Line) (within : ℕ) (u : ℕ → ℕ → Bool) (all : List Recorded)
    : Type 0 where
  pub count : length all ≡ terminal_count line
  pub each : (k : ℕ) (r : Recorded) → slice_get all k ≡ Some r
      → IsRecorded within line.horizon (u k) r

-- what was recorded
abbrev pub recorded_of : Question → History
recorded_of q = seen_history q.seen.now

-- so it is kept of each key and each trip
pub record IsQuestion (q : Question) : Type 0 where
  pub keys : AreRecorded q.compiled.line.now q.within (recorded_of q).key q.keys.items
  pub trips : AreRecorded q.compiled.line.now q.within (recorded_of q).trip q.trips.items

-- an interval for each parameter, of a delay from 1 on
pub record IsPart (line : Line) (part : List Ends) : Type 0 where
  pub count : length part ≡ param_count line
  pub delays : LeastFromOne line (part_box line part)

-- somewhere one of these signals keeps a level around a tick, and the pair there does not allow it
pub record IsOut (line : Line) (within : ℕ) (u : ℕ → ℕ → Bool) (pairs : ℕ → ℕ → Rails)
    : Type 0 where
  pub k : ℕ
  pub t : ℕ
  pub level : Bool
  pub terminal : k < terminal_count line
  pub tick : t < line.horizon
  pub stays : StaysAround within line.horizon (u k) t level
  pub excludes : ¬ (Covers (pairs k t) level)

-- the tick of one signal at which it is so
pub record IsOutAt (stays : List (Option Bool)) (pairs : ℕ → Rails) : Type 0 where
  pub t : ℕ
  pub level : Bool
  pub keeps : slice_get stays t ≡ Some (Some level)
  pub excludes : ¬ (Covers (pairs t) level)

-- the pairs of tracks, each at its ticks
abbrev pub tern_pairs : List (SentKeys Tern) → ℕ → ℕ → Rails
tern_pairs tracks k t = pair_of (λ x _. tern_rails x) 0 t (slice_get tracks k)

-- the least number of each interval, and each interval is one number
pub record AreLeast (part : List Ends) (values : List ℕ) : Type 0 where
  pub count : length values ≡ length part
  pub each : (i : ℕ) → i < length part → get_or values i 0 ≡ (get_or part i (single 0)).least

abbrev pub AreSingle : List Ends → Type 0
AreSingle part = (i : ℕ) → i < length part
    → (get_or part i (single 0)).greatest ≡ (get_or part i (single 0)).least
