-- Where a record cannot be: what is derived from its own keys does not allow what was seen.
use Rattle.std.specs.Prelude.{◌≡◌, ◌<◌, ℕ, Bool, true, false, IsTrue}
use Rattle.model_history.specs.Rails.{Rails, Covers}
use Rattle.run_signal.specs.{declared.tern.Tern.Tern, Terns.tern_rails}
use Rattle.model_line.specs.{declared.line.Line.Line, declared.script.Script.Script}
use Rattle.model_line.specs.Parameters.{terminal_count}
use Rattle.run_waves.specs.derived.Claims.{pairs_of}
use Rattle.run_waves.specs.{derived.Firsts.IsFirstFailing, derived.Claims.derived_key, derived.Claims.derived_trip}
use Rattle.judge_match.specs.{declared.matching.seen.Seen.Seen, matching.Seen.seen_history}

-- what was seen of a terminal's key, or of its trip
abbrev pub level_at : Seen → Bool → ℕ → ℕ → Bool
level_at seen false k t = (seen_history seen).key k t
level_at seen true k t = (seen_history seen).trip k t

-- the pair that the interval rules give over the declared intervals, where what is received are
-- the keys that were seen
abbrev pub derived_at : Line → Script → Seen → Bool → ℕ → ℕ → Rails
derived_at line script seen false k t = derived_key line script (pairs_of seen.keys.items) k t
derived_at line script seen true k t = derived_trip line script (pairs_of seen.keys.items) k t

-- that pair allows what was seen, at a tick and at every tick
abbrev pub IsAllowed : Line → Script → Seen → Bool → ℕ → ℕ → Type 0
IsAllowed line script seen trip k t =
    Covers (derived_at line script seen trip k t) (level_at seen trip k t)

abbrev pub IsSignalAllowed : Line → Script → Seen → Bool → ℕ → Type 0
IsSignalAllowed line script seen trip k =
    (t : ℕ) → t < line.horizon → IsAllowed line script seen trip k t

-- so it is for the key and for the trip of a terminal
pub record IsTerminalAllowed (line : Line) (script : Script) (seen : Seen) (k : ℕ)
    : Type 0 where
  pub key : IsSignalAllowed line script seen false k
  pub trip : IsSignalAllowed line script seen true k

-- so it is for each terminal
pub record AllAllowed (line : Line) (script : Script) (seen : Seen) : Type 0 where
  pub each : (k : ℕ) → k < terminal_count line → IsTerminalAllowed line script seen k

-- the first place of terminal k where it is not: the key before the trip, then by tick; with what
-- was seen and what is derived there
pub record IsTerminalClash (line : Line) (script : Script) (seen : Seen) (k : ℕ) (trip : Bool)
    (t : ℕ) (level : Bool) (derived : Tern) : Type 0 where
  pub key_first : IsTrue trip → IsSignalAllowed line script seen false k
  pub tick : IsFirstFailing (IsAllowed line script seen trip k) line.horizon t
  pub seen_is : level ≡ level_at seen trip k t
  pub derived_is : tern_rails derived ≡ derived_at line script seen trip k t

-- the first place of all, by terminal
pub record IsFirstClash (line : Line) (script : Script) (seen : Seen) (k : ℕ) (trip : Bool)
    (t : ℕ) (level : Bool) (derived : Tern) : Type 0 where
  pub terminal : k < terminal_count line
  pub before : (j : ℕ) → j < k → IsTerminalAllowed line script seen j
  pub clash : IsTerminalClash line script seen k trip t level derived
