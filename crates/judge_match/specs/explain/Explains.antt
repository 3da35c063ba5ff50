-- What it is that a timing explains a record.
use Rattle.std.specs.Prelude.{◌≡◌, ◌<◌, ℕ, Bool, true, false, []}
use Rattle.model_history.specs.Rails.{Rails}
use Rattle.model_line.specs.{declared.line.Line.Line, declared.script.Script.Script}
use Rattle.model_line.specs.Parameters.{terminal_count}
use Rattle.model_logic.specs.Histories.{History, PairHistory, IsLineHistory, IsSameHistory}
use Rattle.model_timing.specs.{Timing.TimingValues, Choice.timing_choice, Inside.IsTimingInside}
use Rattle.judge_match.specs.explain.Changes.{HaveSameChanges}

-- a terminal's trip, or else its key
abbrev pub signal_of : History → Bool → ℕ → ℕ → Bool
signal_of h false k = h.key k
signal_of h true k = h.trip k

-- its pairs in an interval history
abbrev pub pairs_of : PairHistory → Bool → ℕ → ℕ → Rails
pairs_of w false k = w.key k
pairs_of w true k = w.trip k

-- of each terminal the second signal has the changes of the first, each at most so many ticks away
abbrev pub AreNearEach : Line → ℕ → (ℕ → ℕ → Bool) → (ℕ → ℕ → Bool) → Type 0
AreNearEach line within recorded played =
    (k : ℕ) → k < terminal_count line
    → HaveSameChanges within line.horizon (recorded k) (played k)

-- each key and each trip of a history has the changes that were recorded, each at most so many ticks
-- away
pub record IsNear (line : Line) (within : ℕ) (recorded h : History) : Type 0 where
  pub keys : AreNearEach line within recorded.key h.key
  pub trips : AreNearEach line within recorded.trip h.trip

-- so it is with the history of the timing
pub record Explains (line : Line) (script : Script) (within : ℕ) (recorded : History)
    (timing : TimingValues) : Type 0 where
  pub near : (h : History) → IsLineHistory line script (timing_choice line timing) h
      → IsNear line within recorded h

-- h is the history of a timing, and there is no other
pub record IsPlayed (line : Line) (script : Script) (timing : TimingValues) (h : History)
    : Type 0 where
  pub is : IsLineHistory line script (timing_choice line timing) h
  pub only : (other : History) → IsLineHistory line script (timing_choice line timing) other
      → IsSameHistory line other h

-- inside the declared intervals, with delays that stay as they are
pub record IsSteadyInside (line : Line) (timing : TimingValues) : Type 0 where
  pub inside : IsTimingInside line timing
  pub steady : timing.steps ≡ []

-- no such timing explains the record
abbrev pub NoneExplains : Line → Script → ℕ → History → Type 0
NoneExplains line script within recorded =
    (timing : TimingValues) → IsSteadyInside line timing
    → ¬ (Explains line script within recorded timing)
