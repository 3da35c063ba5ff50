-- What a run gives of the ticks below one.
use Rattle.std.specs.Prelude.{◌≡◌, ◌<◌, ◌≤◌, ℕ, List, Some, length, slice_get}
use Rattle.model_history.specs.Rails.{both}
use Rattle.run_signal.specs.SentKeys.{SentKeys}
use Rattle.model_line.specs.{declared.script.Script.Script, declared.line.Line.Line}
use Rattle.model_line.specs.Parameters.{terminal_count}
use Rattle.model_logic.specs.Choice.{Choice}
use Rattle.model_logic.specs.Histories.{History, IsLineHistory, PairHistory}

-- a track for each of n signals, with a value for each tick below `until`
pub record ReachTick {V : Type 0} (n until : ℕ) (tracks : List (SentKeys V)) : Type 0 where
  pub count : length tracks ≡ n
  pub reach : (k : ℕ) (track : SentKeys V) → slice_get tracks k ≡ Some track
      → until ≤ length track.keys

-- at each tick below `until` w is, on both rails, the history h
pub record IsBothBelow (line : Line) (until : ℕ) (w : PairHistory) (h : History) : Type 0 where
  pub keys : (k t : ℕ) → k < terminal_count line → t < until → w.key k t ≡ both (h.key k t)
  pub trips : (k t : ℕ) → k < terminal_count line → t < until → w.trip k t ≡ both (h.trip k t)

-- so it is of each history at the choice
abbrev pub AreExactBelow : Line → Script → Choice → ℕ → PairHistory → Type 0
AreExactBelow line script choice until w =
    (h : History) → IsLineHistory line script choice h → IsBothBelow line until w h
