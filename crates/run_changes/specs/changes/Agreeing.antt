-- In which lanes a run is as recorded.
use Rattle.std.specs.Prelude.{◌≡◌, ◌<◌, ◌≤◌, ℕ, List, slice_get}
use Rattle.model_history.specs.Rails.{Rails, Ends}
use Rattle.run_signal.specs.{declared.level.Level.Level, Levels.level_rails}
use Rattle.run_signal.specs.SentKeys.{SentKeys}
use Rattle.model_line.specs.{declared.script.Script.Script, declared.line.Line.Line}
use Rattle.model_line.specs.Parameters.{terminal_count}
use Rattle.model_logic.specs.PairMean.{PairSignals}
use Rattle.model_logic.specs.Histories.{History, IsLineHistory, IsSameHistory}
use Rattle.model_logic.specs.Choice.{Choice}
use Rattle.run_step.specs.declared.run.Run.{Run}
use Rattle.run_changes.specs.changes.Tracks.{pair_of, trips_of}
use Rattle.run_step.specs.Lanes.{line_lane}

-- each history at the choice is this one, at every terminal and tick
pub record IsOnlyHistory (line : Line) (script : Script) (choice : Choice) (h : History)
    : Type 0 where
  pub same : (other : History) → IsLineHistory line script choice other
      → IsSameHistory line other h

-- two signals are the same from tick `from` on until tick `end`
abbrev pub AgreeIn : (ℕ → Rails) → (ℕ → Rails) → ℕ → ℕ → Type 0
AgreeIn own recorded from end = (r : ℕ) → from ≤ r → r < end → own r ≡ recorded r

-- the pairs of the tracks of a run in a lane, and of tracks whose values are known
abbrev pub own_pairs : {V : Type 0} → (V → ℕ → Rails) → ℕ → List (SentKeys V) → PairSignals
own_pairs rails lane tracks k r = pair_of rails lane r (slice_get tracks k)

abbrev pub recorded_pairs : List (SentKeys Level) → PairSignals
recorded_pairs tracks k r = pair_of (λ x _. level_rails x) 0 r (slice_get tracks k)

-- so it is of the first n signals
abbrev pub AllAgreeIn : ℕ → PairSignals → List (SentKeys Level) → ℕ → ℕ → Type 0
AllAgreeIn n own recorded from end =
    (k : ℕ) → k < n → AgreeIn (own k) (recorded_pairs recorded k) from end

-- the keys and the trips of n terminals are the recorded ones before tick t
pub record AgreeBelow (n : ℕ) (key trip : PairSignals)
    (recorded_keys recorded_trips : List (SentKeys Level)) (t : ℕ) : Type 0 where
  pub keys : AllAgreeIn n key recorded_keys 0 t
  pub trips : AllAgreeIn n trip recorded_trips 0 t

-- so it is of the interval history of the line over the lane's box
abbrev pub LaneAgrees : {S : Type 0} → (S → ℕ → Ends) → Run S → Script → ℕ → List (SentKeys Level)
    → List (SentKeys Level) → ℕ → Type 0
LaneAgrees ends run script lane keys trips t =
    let p = line_lane ends run script lane in
    AgreeBelow (terminal_count run.compiled.now.line.now) p.keys
    (trips_of run.compiled.now.net.now p.pairs) keys trips t
